-- Arcs found by their ends.
use Rattle.std.proofs.Common.{◌≡◌, ℕ, ◌&&◌, nat_eq, min, max, List, [], ◌∷◌, map, refl, arith}
use Rattle.std.specs.List.{list_any}
use Rattle.std.proofs.lemmas.Bool.Decides.{nat_tests}
use Rattle.trial_rows.specs.declared.drawn.TrialArc.{TrialArc}
use Rattle.gsm_gen.specs.Joins.{joins, are_joined, ends_of}

-- two arcs have the same ends where one joins those of the other
pub same_ends : (a b : TrialArc) → (nat_eq (ends_of a).0 (ends_of b).0 && nat_eq (ends_of a).1 (ends_of b).1) ≡ joins a.supplier a.customer b
same_ends a b = grind (arith, nat_tests)

-- among the ends of arcs are those of an arc where one of them joins the same stages
pub found_by_ends : (a : TrialArc) (arcs : List TrialArc) → list_any (λ e. nat_eq (ends_of a).0 e.0 && nat_eq (ends_of a).1 e.1) (map ends_of arcs) ≡ are_joined arcs a.supplier a.customer
found_by_ends a [] = refl
found_by_ends a (b ∷ arcs) = rw (same_ends a b, found_by_ends a arcs) refl

-- so the ends that are kept tell whether an arc joins the same stages
pub told_by_ends : (a : TrialArc) (arcs : List TrialArc) (keys : List (ℕ × ℕ)) (lower upper : ℕ) → keys ≡ map ends_of arcs
    → lower ≡ min a.supplier a.customer → upper ≡ max a.supplier a.customer
    → list_any (λ e. nat_eq lower e.0 && nat_eq upper e.1) keys ≡ are_joined arcs a.supplier a.customer
told_by_ends a arcs keys lower upper same low high =
    rw (same, low, high) (found_by_ends a arcs)
