-- The best of some repairs, with one repair more.
use Rattle.std.proofs.Common.{◌≡◌, ◌<◌, ◌≤◌, Bool, true, false, cond, Option, Some, None, refl, ap, subst, inl, inr, ⊎_elim, arith}
use Rattle.std.specs.Prelude.{nat_lt, ◌⊎◌}
use Rattle.std.proofs.lemmas.Bool.{ltb-true, ltb-false}
use Rattle.service_model.specs.declared.plan.Plan.{Plan}
use Rattle.service_model.specs.Net.{Net}
use Rattle.service_model.specs.Plans.{cost_of}
use Rattle.service_model.specs.Repairs.{Repair, Raise, Lower, Shift, IsCandidateOf, turn, FoundOf, better}
use Rattle.end_rules.specs.Candidates.{IsTheCandidate, CandidateOf}

-- plan p is the first of the candidates that cost least among the repairs tried
record IsBestOf (n : Net) (relaxed : Option Plan) (tried : Repair → Type 0) (p : Plan) : Type 0 where
  kind : Repair
  among : tried kind
  candidate : IsCandidateOf n relaxed kind p
  least : (other : Repair) (q : Plan) → tried other → IsCandidateOf n relaxed other q → cost_of n p ≤ cost_of n q
  first : (other : Repair) (q : Plan) → tried other → IsCandidateOf n relaxed other q → turn other < turn kind → cost_of n p < cost_of n q

abbrev BestOf : Net → Option Plan → (Repair → Type 0) → Option Plan → Type 0
BestOf n relaxed tried None = (other : Repair) (q : Plan) → tried other → ¬ IsCandidateOf n relaxed other q
BestOf n relaxed tried (Some p) = IsBestOf n relaxed tried p

abbrev and_tried : (Repair → Type 0) → Repair → Repair → Type 0
and_tried tried kind other = tried other ⊎ (other ≡ kind)

-- the candidates of one repair cost the same
same_cost : (n : Net) (relaxed : Option Plan) (kind other : Repair) (x q : Plan) → IsTheCandidate n relaxed kind x → other ≡ kind → IsCandidateOf n relaxed other q
    → cost_of n q ≡ cost_of n x
same_cost n relaxed kind other x q the same is = ap (cost_of n) (the.only q (subst (λ k. IsCandidateOf n relaxed k q) same is))

keep_old : (n : Net) (relaxed : Option Plan) (tried : Repair → Type 0) (kind : Repair) (p : Plan) → ((other : Repair) → tried other → turn other < turn kind)
    → IsBestOf n relaxed tried p → ((q : Plan) → IsCandidateOf n relaxed kind q → cost_of n p ≤ cost_of n q) → IsBestOf n relaxed (and_tried tried kind) p
keep_old n relaxed tried kind p later best low = record {
  kind = best.kind;
  among = inl best.among;
  candidate = best.candidate;
  least = λ other q which is. ⊎_elim
      (λ old. best.least other q old is)
      (λ same. low q (subst (λ k. IsCandidateOf n relaxed k q) same is))
      which;
  first = λ other q which is before. ⊎_elim
      (λ old. best.first other q old is before)
      (λ same. absurd (omega (arith, later best.kind best.among, ap turn same, before)))
      which;
}

take_new : (n : Net) (relaxed : Option Plan) (tried : Repair → Type 0) (kind : Repair) (x : Plan) → IsTheCandidate n relaxed kind x
    → ((other : Repair) (q : Plan) → tried other → IsCandidateOf n relaxed other q → cost_of n x < cost_of n q) → IsBestOf n relaxed (and_tried tried kind) x
take_new n relaxed tried kind x the low = record {
  kind = kind;
  among = inr refl;
  candidate = the.candidate;
  least = λ other q which is. ⊎_elim
      (λ old. omega (arith, low other q old is))
      (λ same. omega (arith, same_cost n relaxed kind other x q the same is))
      which;
  first = λ other q which is before. ⊎_elim
      (λ old. low other q old is)
      (λ same. absurd (omega (arith, ap turn same, before)))
      which;
}

choose : (n : Net) (relaxed : Option Plan) (tried : Repair → Type 0) (kind : Repair) (p x : Plan) → ((other : Repair) → tried other → turn other < turn kind)
    → IsBestOf n relaxed tried p → IsTheCandidate n relaxed kind x → (b : Bool) → nat_lt (cost_of n x) (cost_of n p) ≡ b
    → BestOf n relaxed (and_tried tried kind) (cond b (Some x) (Some p))
choose n relaxed tried kind p x later best the true less =
    take_new n relaxed tried kind x the (λ other q old is. omega (arith, ltb-true _ _ less, best.least other q old is))
choose n relaxed tried kind p x later best the false more =
    keep_old n relaxed tried kind p later best (λ q is. omega (arith, ltb-false _ _ more, same_cost n relaxed kind kind x q the refl is))

best_more : (n : Net) (relaxed : Option Plan) (tried : Repair → Type 0) (kind : Repair) (old next : Option Plan) → ((other : Repair) → tried other → turn other < turn kind)
    → BestOf n relaxed tried old → CandidateOf n relaxed kind next → BestOf n relaxed (and_tried tried kind) (better n old next)
best_more n relaxed tried kind None None later none never =
    λ other q which is. ⊎_elim (λ old. none other q old is) (λ same. never q (subst (λ k. IsCandidateOf n relaxed k q) same is)) which
best_more n relaxed tried kind None (Some x) later none the = take_new n relaxed tried kind x the (λ other q old is. absurd (none other q old is))
best_more n relaxed tried kind (Some p) None later best never = keep_old n relaxed tried kind p later best (λ q is. absurd (never q is))
best_more n relaxed tried kind (Some p) (Some x) later best the =
    choose n relaxed tried kind p x later best the (nat_lt (cost_of n x) (cost_of n p)) refl

begun : (n : Net) (relaxed : Option Plan) (kind : Repair) (found : Option Plan) → CandidateOf n relaxed kind found → BestOf n relaxed (λ other. other ≡ kind) found
begun n relaxed kind None never = λ other q same is. never q (subst (λ k. IsCandidateOf n relaxed k q) same is)
begun n relaxed kind (Some x) the = record {
  kind = kind;
  among = refl;
  candidate = the.candidate;
  least = λ other q same is. omega (arith, same_cost n relaxed kind other x q the same is);
  first = λ other q same is before. absurd (omega (arith, ap turn same, before));
}

tried_all : (other : Repair) → ((other ≡ Raise) ⊎ (other ≡ Lower)) ⊎ (other ≡ Shift)
tried_all Raise = inl (inl refl)
tried_all Lower = inl (inr refl)
tried_all Shift = inr refl

of_all : (n : Net) (relaxed : Option Plan) (tried : Repair → Type 0) (found : Option Plan) → ((other : Repair) → tried other) → BestOf n relaxed tried found
    → FoundOf n relaxed found
of_all n relaxed tried None all none = λ kind p. none kind p (all kind)
of_all n relaxed tried (Some p) all best = record {
  kind = best.kind;
  candidate = best.candidate;
  least = λ other q. best.least other q (all other);
  first = λ other q. best.first other q (all other);
}

-- the best of the three repairs
pub found_from : (n : Net) (relaxed raised lowered shifted : Option Plan) → CandidateOf n relaxed Raise raised → CandidateOf n relaxed Lower lowered
    → CandidateOf n relaxed Shift shifted → FoundOf n relaxed (better n (better n raised lowered) shifted)
found_from n relaxed raised lowered shifted raise lower shift =
    let two = best_more n relaxed (λ other. other ≡ Raise) Lower raised lowered (λ other same. omega (arith, ap turn same)) (begun n relaxed Raise raised raise) lower in
    let three = best_more n relaxed (and_tried (λ other. other ≡ Raise) Lower) Shift (better n raised lowered) shifted
    (λ other which. ⊎_elim (λ same. omega (arith, ap turn same)) (λ same. omega (arith, ap turn same)) which) two shift in
    of_all n relaxed (and_tried (and_tried (λ other. other ≡ Raise) Lower) Shift) _ tried_all three
