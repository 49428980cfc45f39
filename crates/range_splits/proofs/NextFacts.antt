-- The first of the leaves is split next.
use Rattle.std.proofs.Common.{ℕ, List, inl, inr, ⊎_elim, subst, sym, refl, arith}
use Rattle.std.proofs.lemmas.Bool.{cases_lt, cases_eq}
use Rattle.service_model.specs.declared.table.Table.{Table}
use Rattle.service_model.specs.CertRanges.{Cut, IsLeaf, node_bound}
use Rattle.open_leaves.specs.declared.leaf.Leaf.{Leaf}
use Rattle.open_leaves.specs.Leaves.{IsBefore}
use Rattle.range_splits.specs.Open.{AreLeaves, IsLeastOf}
use Rattle.range_splits.specs.Laws.{NextLaw}

-- no leaf is before the first
not_before : (tables : List Table) (roots : List (List ℕ)) (cuts : List Cut) (leaves : List Leaf) (leaf : Leaf) → AreLeaves tables roots cuts leaves
    → IsLeastOf leaves leaf → (k : ℕ) → IsLeaf cuts k → ¬ IsBefore (record { bound = node_bound tables roots k; node = k }) leaf
not_before tables roots cuts leaves leaf are first k there before =
    let q : Leaf = record { bound = node_bound tables roots k; node = k } in
    let (i, within, is) = (are q).1 (there, refl) in
    first.least i q within (subst (λ (x : Leaf). IsBefore x leaf) (sym is) before)

pub next_law : NextLaw
next_law tables roots cuts leaves leaf are first =
    let own = (are leaf).0 first.there in
    let late = not_before tables roots cuts leaves leaf are first in
    let least = λ (k : ℕ) (there : IsLeaf cuts k). ⊎_elim
    (λ below. absurd (late k there (inl below))) (λ not_below. not_below) (cases_lt (node_bound tables roots k) leaf.bound) in (
      record {
        leaf = own.0;
        least = λ k there. let low = least k there in omega (arith, low, own.1);
        first = λ k there before. ⊎_elim
            (λ same. absurd (late k there (inr (same, before))))
            (λ other. let low = least k there in omega (arith, low, own.1, other))
            (cases_eq (node_bound tables roots k) leaf.bound);
      },
      record { lower = least; node = leaf.node; leaf = own.0; reached = sym own.1 },
    )
