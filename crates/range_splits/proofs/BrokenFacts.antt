-- The arc that is broken most among the first arcs, and with one arc more.
use Rattle.std.proofs.Common.{◌≡◌, ℕ, ◌+◌, ◌<◌, ◌≤◌, length, Option, Some, None, refl, sym, ap, subst, ⊎_elim, arith}
use Rattle.std.specs.Prelude.{All, MatchOption, option_map}
use Rattle.std.proofs.lemmas.Bool.{cases_lt, cases_eq}
use Rattle.std.proofs.lemmas.List.{get_or_default}
use Rattle.service_model.specs.declared.plan.Plan.{Plan}
use Rattle.service_model.specs.Net.{Net, no_arc, arc_in}
use Rattle.service_model.specs.Plans.{Meets}
use Rattle.range_splits.specs.declared.broken.Broken.{Broken}
use Rattle.range_splits.specs.Breaks.{lateness, IsMostBroken, IsMostOf, IsMostSoFar, late_of}

-- the last of the arcs is met, or broken no more than another
same_best : (n : Net) (p : Plan) (a : ℕ) (best : Option Broken) → lateness p (arc_in n.arcs a) ≤ late_of best → IsMostSoFar n p a best → IsMostSoFar n p (a + 1) best
same_best n p a None few so = λ b within. ⊎_elim (λ is. omega (arith, few, ap (λ k. lateness p (arc_in n.arcs k)) is)) (λ other. so b (omega (arith, within, other))) (cases_eq b a)
same_best n p a (Some x) few so = record {
  there = let there = so.there in omega (arith, there);
  late = so.late;
  broken = so.broken;
  most = λ b within. ⊎_elim (λ is. omega (arith, few, ap (λ k. lateness p (arc_in n.arcs k)) is)) (λ other. so.most b (omega (arith, within, other))) (cases_eq b a);
  first = so.first;
}

all_less : (n : Net) (p : Plan) (a : ℕ) (best : Option Broken) → IsMostSoFar n p a best → (b : ℕ) → b < a → lateness p (arc_in n.arcs b) ≤ late_of best
all_less n p a None so b within = let met : lateness p (arc_in n.arcs b) ≡ 0 = so b within in omega (arith, met)
all_less n p a (Some x) so b within = so.most b within

-- the last of the arcs is broken most
new_best : (n : Net) (p : Plan) (a : ℕ) (best : Option Broken) → late_of best < lateness p (arc_in n.arcs a) → IsMostSoFar n p a best
    → IsMostOf n p (a + 1) (record { arc = a; late = lateness p (arc_in n.arcs a) })
new_best n p a best more so = record {
  there = omega arith;
  late = refl;
  broken = omega (arith, more);
  most = λ b within. ⊎_elim (λ is. omega (arith, ap (λ k. lateness p (arc_in n.arcs k)) is))
      (λ other. let low = all_less n p a best so b (omega (arith, within, other)) in omega (arith, low, more)) (cases_eq b a);
  first = λ b before. let low = all_less n p a best so b before in omega (arith, low, more);
}

pub one_more : (n : Net) (p : Plan) (a : ℕ) (best next : Option Broken) → (late_of best < lateness p (arc_in n.arcs a)
    → next ≡ Some (record { arc = a; late = lateness p (arc_in n.arcs a) })) → (lateness p (arc_in n.arcs a) ≤ late_of best → next ≡ best)
    → IsMostSoFar n p a best → IsMostSoFar n p (a + 1) next
one_more n p a best next more same so = ⊎_elim
    (λ high. subst (IsMostSoFar n p (a + 1)) (sym (more high)) (new_best n p a best high so))
    (λ low. subst (IsMostSoFar n p (a + 1)) (sym (same low)) (same_best n p a best low so))
    (cases_lt (late_of best) (lateness p (arc_in n.arcs a)))

-- where no arc is late all are met
pub all_met : (n : Net) (p : Plan) → ((b : ℕ) → b < length n.arcs → lateness p (arc_in n.arcs b) ≡ 0) → All (Meets p) n.arcs
all_met n p met k d within = subst (Meets p) (get_or_default n.arcs k no_arc d within) (let late = met k within in omega (arith, late))

pub most_broken : (n : Net) (p : Plan) (x : Broken) → IsMostOf n p (length n.arcs) x → IsMostBroken n p x.arc
most_broken n p x is = record {
  there = is.there;
  broken = let late = is.late in let some = is.broken in omega (arith, late, some);
  most = λ b within. let low = is.most b within in let late = is.late in omega (arith, low, late);
  first = λ b before. let low = is.first b before in let late = is.late in omega (arith, low, late);
}

pub found_broken : (n : Net) (p : Plan) (best : Option Broken) → IsMostSoFar n p (length n.arcs) best
    → MatchOption (option_map (λ x. x.arc) best) (All (Meets p) n.arcs) (IsMostBroken n p)
found_broken n p None so = all_met n p so
found_broken n p (Some x) so = most_broken n p x so
