-- The plan found grows node by node.
use Rattle.std.proofs.Common.{◌≡◌, ℕ, ◌<◌, ◌≤◌, Bool, true, false, cond, List, [], ◌∷◌, ◌++◌, length, Option, Some, None, refl, sym, ◌∙◌, subst, inl, inr, ⊎_elim, arith}
use Rattle.std.specs.Prelude.{nat_lt, ◌⊎◌}
use Rattle.std.proofs.lemmas.Bool.{cases_lt, ltb-true, ltb-false}
use Rattle.std.proofs.lemmas.List.{length_push, get_or_append_left, get_or_push, get_or_past}
use Rattle.service_model.specs.declared.plan.Plan.{Plan}
use Rattle.service_model.specs.Net.{Net}
use Rattle.service_model.specs.Plans.{cost_of}
use Rattle.service_model.specs.Repairs.{Repair, Raise, Lower, Shift, IsCandidateOf, IsCandidate, turn, IsFound, Found, IsFoundOf}
use Rattle.cert_laws.specs.Laws.{FoundMoreLaw}

pub turn_low : (kind : Repair) → turn kind < 3
turn_low Raise = omega arith
turn_low Lower = omega arith
turn_low Shift = omega arith

no_plan_there : {p : Plan} → (let none : Option Plan = None in none ≡ Some p) → ⊥
no_plan_there same = cc

-- a candidate is of a node that is there
candidate_there : (n : Net) (relaxed : List (Option Plan)) (k : ℕ) (kind : Repair) (p : Plan) → IsCandidate n relaxed k kind p → k < length relaxed
candidate_there n relaxed k kind p is = ⊎_elim
    (λ within. within)
    (λ past. absurd (no_plan_there (sym (get_or_past relaxed k None past) ∙ is.there)))
    (cases_lt k (length relaxed))

-- a candidate of one node more is one of the nodes before, or of the new one
which : (n : Net) (relaxed : List (Option Plan)) (next : Option Plan) (k : ℕ) (kind : Repair) (p : Plan) → IsCandidate n (relaxed ++ next ∷ []) k kind p
    → ((k < length relaxed) × IsCandidate n relaxed k kind p) ⊎ ((k ≡ length relaxed) × IsCandidateOf n next kind p)
which n relaxed next k kind p is = ⊎_elim
    (λ old. inl (old, subst (λ o. IsCandidateOf n o kind p) (get_or_append_left relaxed (next ∷ []) None k old) is))
    (λ late.
    let there = candidate_there n (relaxed ++ next ∷ []) k kind p is in
    let at : k ≡ length relaxed = omega (arith, there, length_push relaxed next) in
    inr (at, subst (λ o. IsCandidateOf n o kind p) (get_or_push relaxed next None k (sym at)) is))
    (cases_lt k (length relaxed))

old_candidate : (n : Net) (relaxed : List (Option Plan)) (next : Option Plan) (k : ℕ) (kind : Repair) (p : Plan) → IsCandidate n relaxed k kind p
    → IsCandidate n (relaxed ++ next ∷ []) k kind p
old_candidate n relaxed next k kind p is =
    subst (λ o. IsCandidateOf n o kind p) (sym (get_or_append_left relaxed (next ∷ []) None k (candidate_there n relaxed k kind p is))) is

new_candidate : (n : Net) (relaxed : List (Option Plan)) (next : Option Plan) (kind : Repair) (p : Plan) → IsCandidateOf n next kind p
    → IsCandidate n (relaxed ++ next ∷ []) (length relaxed) kind p
new_candidate n relaxed next kind p is = subst (λ o. IsCandidateOf n o kind p) (sym (get_or_push relaxed next None (length relaxed) refl)) is

-- the plan found before stays
keep_old : (n : Net) (relaxed : List (Option Plan)) (next : Option Plan) (p : Plan) → IsFound n relaxed p
    → ((kind : Repair) (q : Plan) → IsCandidateOf n next kind q → cost_of n p ≤ cost_of n q) → IsFound n (relaxed ++ next ∷ []) p
keep_old n relaxed next p found low = record {
  node = found.node;
  kind = found.kind;
  candidate = old_candidate n relaxed next found.node found.kind p found.candidate;
  least = λ k other q is. ⊎_elim (λ old. found.least k other q old.1) (λ new. low other q new.1) (which n relaxed next k other q is);
  first = λ k other q is before. ⊎_elim
      (λ old. found.first k other q old.1 before)
      (λ new. absurd (omega (arith, new.0, before, candidate_there n relaxed found.node found.kind p found.candidate, turn_low found.kind)))
      (which n relaxed next k other q is);
}

-- the new node's plan is taken
take_new : (n : Net) (relaxed : List (Option Plan)) (next : Option Plan) (q : Plan) → IsFoundOf n next q
    → ((k : ℕ) (kind : Repair) (p : Plan) → IsCandidate n relaxed k kind p → cost_of n q < cost_of n p) → IsFound n (relaxed ++ next ∷ []) q
take_new n relaxed next q found low = record {
  node = length relaxed;
  kind = found.kind;
  candidate = new_candidate n relaxed next found.kind q found.candidate;
  least = λ k other p is. ⊎_elim (λ old. omega (arith, low k other p old.1)) (λ new. found.least other p new.1) (which n relaxed next k other p is);
  first = λ k other p is before. ⊎_elim
      (λ old. low k other p old.1)
      (λ new. found.first other p new.1 (omega (arith, new.0, before)))
      (which n relaxed next k other p is);
}

choose : (n : Net) (relaxed : List (Option Plan)) (next : Option Plan) (p q : Plan) → IsFound n relaxed p → IsFoundOf n next q
    → (b : Bool) → nat_lt (cost_of n q) (cost_of n p) ≡ b → Found n (relaxed ++ next ∷ []) (cond b (Some q) (Some p))
choose n relaxed next p q found new true less =
    take_new n relaxed next q new (λ k kind other is. omega (arith, ltb-true _ _ less, found.least k kind other is))
choose n relaxed next p q found new false more =
    keep_old n relaxed next p found (λ kind other is. omega (arith, ltb-false _ _ more, new.least kind other is))

pub found_more_law : FoundMoreLaw
found_more_law n relaxed next None None old new =
    λ k kind p is. ⊎_elim (λ before. old k kind p before.1) (λ here. new kind p here.1) (which n relaxed next k kind p is)
found_more_law n relaxed next None (Some q) old new = take_new n relaxed next q new (λ k kind p is. absurd (old k kind p is))
found_more_law n relaxed next (Some p) None old new = keep_old n relaxed next p old (λ kind q is. absurd (new kind q is))
found_more_law n relaxed next (Some p) (Some q) old new = choose n relaxed next p q old new (nat_lt (cost_of n q) (cost_of n p)) refl
