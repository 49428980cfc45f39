-- The first of the leaves is split next, and no other node is.
use Rattle.std.proofs.Common.{◌≡◌, ◌≢◌, ℕ, ◌<◌, ◌≤◌, List, length, Option, Some, None, inl, inr, ⊎_elim, subst, sym, refl, arith}
use Rattle.std.specs.Prelude.{All, Contains, IfSome}
use Rattle.std.proofs.lemmas.Bool.{cases_lt, cases_eq}
use Rattle.std.proofs.lemmas.List.{length-map, get_or-map}
use Rattle.std.proofs.lemmas.List.Elements.{All-map}
use Rattle.service_model.specs.declared.table.Table.{Table}
use Rattle.service_model.specs.Net.{Net}
use Rattle.service_model.specs.CertRanges.{Cut, no_cut, IsLeaf}
use Rattle.service_model.specs.Verdicts.{IsNextLeaf}
use Rattle.service_model.specs.Held.{Held, cut_by, cuts_of, bound_at}
use Rattle.split_rules.specs.declared.leaves.Leaf.{Leaf}
use Rattle.split_rules.specs.Leaves.{IsBefore, AreLeaves, AreNodesComplete, IsNextOf}

-- a leaf came, and no split names it
came : (n : Net) (h : Held) (k : ℕ) → AreNodesComplete h → IsLeaf (cuts_of n h) k → (k < length h.nodes) × All (λ s. s.node ≢ k) h.splits
came n h k complete leaf =
    let long = length-map h.splits (cut_by n h.nodes) in (
      let there = leaf.there in omega (arith, there, complete, long),
      λ i d within.
          subst (λ (c : Cut). c.node ≢ k) (get_or-map (cut_by n h.nodes) h.splits i d no_cut within)
          (leaf.not_cut i no_cut (omega (arith, within, long))),
    )

-- and the other way round
is_leaf : (n : Net) (h : Held) (k : ℕ) → AreNodesComplete h → (k < length h.nodes) × All (λ s. s.node ≢ k) h.splits → IsLeaf (cuts_of n h) k
is_leaf n h k complete (there, others) =
    let long = length-map h.splits (cut_by n h.nodes) in
    record {
      there = omega (arith, there, complete, long);
      not_cut = All-map (λ (c : Cut). c.node ≢ k) (cut_by n h.nodes) h.splits others;
    }

not_before : (n : Net) (h : Held) (leaves : List Leaf) (leaf : Leaf) → AreLeaves h leaves → AreNodesComplete h → All (λ q. ¬ IsBefore q leaf) leaves
    → (k : ℕ) → IsLeaf (cuts_of n h) k → ¬ IsBefore (record { bound = bound_at h k; node = k }) leaf
not_before n h leaves leaf are complete first k there before =
    let q : Leaf = record { bound = bound_at h k; node = k } in
    let at = came n h k complete there in
    let (i, within, is) = (are q).1 (at.0, at.1, refl) in
    first i q within (subst (λ (x : Leaf). IsBefore x leaf) (sym is) before)

-- the leaf before which there is none is split next
pub next_of : (n : Net) (h : Held) (leaves : List Leaf) (leaf : Leaf) → AreLeaves h leaves → AreNodesComplete h → Contains leaves leaf
    → All (λ q. ¬ IsBefore q leaf) leaves → IsNextOf n h leaf
next_of n h leaves leaf are complete there first =
    let own = (are leaf).0 there in
    let here = is_leaf n h leaf.node complete (own.0, own.1) in
    let late = not_before n h leaves leaf are complete first in
    let least : (k : ℕ) → IsLeaf (cuts_of n h) k → leaf.bound ≤ bound_at h k = λ k is. ⊎_elim
    (λ below. absurd (late k is (inl below))) (λ not_below. not_below) (cases_lt (bound_at h k) leaf.bound) in
    record {
      next = record {
        leaf = here;
        least = λ k is. let low = least k is in omega (arith, low, own.2);
        first = λ k is before. ⊎_elim
            (λ same. absurd (late k is (inr (same, before))))
            (λ other. let low = least k is in omega (arith, low, own.2, other))
            (cases_eq (bound_at h k) leaf.bound);
      };
      bound = own.2;
      least = record { lower = least; node = leaf.node; leaf = here; reached = sym own.2 };
    }

pub if_next : (n : Net) (h : Held) (leaves : List Leaf) (first : Option Leaf) → AreLeaves h leaves → AreNodesComplete h
    → IfSome first (Contains leaves) → IfSome first (λ leaf. All (λ q. ¬ IsBefore q leaf) leaves) → IfSome first (IsNextOf n h)
if_next n h leaves None are complete there least = tt
if_next n h leaves (Some leaf) are complete there least = next_of n h leaves leaf are complete there least

-- one node is split next
pub next_one : (tables : List Table) (roots : List (List ℕ)) (cuts : List Cut) (j k : ℕ) → IsNextLeaf tables roots cuts j → IsNextLeaf tables roots cuts k → j ≡ k
next_one tables roots cuts j k one other = ⊎_elim
    (λ before. let less = other.first j one.leaf before in let low = one.least k other.leaf in absurd (omega (arith, less, low)))
    (λ not_before. ⊎_elim
    (λ behind. let less = one.first k other.leaf behind in let low = other.least j one.leaf in absurd (omega (arith, less, low)))
    (λ not_behind. omega (arith, not_before, not_behind))
    (cases_lt k j))
    (cases_lt j k)
