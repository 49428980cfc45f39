-- A search has a leaf, and no more tables than its budget has room for.
use Rattle.std.proofs.Common.{◌≡◌, ℕ, ◌+◌, ◌*◌, ◌≤◌, List, [], length, refl, ap, subst, arith}
use Rattle.std.specs.Prelude.{None, Contains}
use Rattle.std.proofs.Math.Nat.{mul-le-mul_right}
use Rattle.std.proofs.lemmas.List.{get_or_default, length-take-le}
use Rattle.service_model.specs.declared.table.Table.{Table}
use Rattle.service_model.specs.Net.{Net}
use Rattle.service_model.specs.Networks.{IsNetwork}
use Rattle.service_model.specs.CertRanges.{Cut, no_cut, AreCuts, IsLeaf, node_bound}
use Rattle.service_model.specs.Held.{cuts_of, roots_of}
use Rattle.tree_order.specs.declared.forest.Forest.{Forest}
use Rattle.open_leaves.specs.declared.leaf.Leaf.{Leaf}
use Rattle.range_splits.specs.Open.{IsEndingOf}
use Rattle.range_branch.specs.declared.progress.Progress.{Progress}
use Rattle.range_branch.specs.Progress.{came, IsProgress, leaf_of}
use Rattle.range_branch.proofs.ReplaceFacts.{none_there}
use Rattle.range_branch.proofs.OpenFacts.{goes_on}
use Rattle.range_branch.proofs.SplittingFacts.{sound_so_far}
use Rattle.range_branch.proofs.LeafStepFacts.{rows_more}

-- the last node is a leaf
last_leaf : (n : Net) (cuts : List Cut) → AreCuts n cuts → IsLeaf cuts (2 * length cuts)
last_leaf n cuts are = record {
  there = omega arith;
  not_cut = λ i d within same.
      let low = (are i within).leaf.there in
      let long = length-take-le i cuts (omega (arith, within)) in
      let at = ap (λ (c : Cut). c.node) (get_or_default cuts i d no_cut within) in
      omega (arith, low, long, at, same, within);
}

pub some_leaf : (n : Net) (f : Forest) (budget : ℕ) (tables : List Table) (p : Progress) → IsNetwork n → IsProgress n f budget tables p
    → (let none : List Leaf = [] in p.leaves ≡ none) → ⊥
some_leaf n f budget tables p valid is none =
    let h = came n budget tables p in
    let cuts = cuts_of n h in
    let k = 2 * length cuts in
    let q = leaf_of (node_bound tables (roots_of h) k) k in
    let there = (is.leaves q).1 (last_leaf n cuts (sound_so_far n f budget tables p valid is).cuts, refl) in
    none_there q (subst (λ xs. Contains xs q) none there)

-- no more tables than there is room for
pub few_tables : (n : Net) (f : Forest) (budget : ℕ) (tables : List Table) (p : Progress) → IsProgress n f budget tables p → length tables ≤ budget * length n.stages
few_tables n f budget tables p is =
    let few = is.few in
    let most = mul-le-mul_right (length n.stages) is.within in
    omega (arith, few, most)

-- and so where two nodes more are made
pub few_more : (n : Net) (f : Forest) (budget : ℕ) (tables : List Table) (p : Progress) (least : ℕ) → IsProgress n f budget tables p
    → IsEndingOf n p.found least (length p.nodes) budget None → length tables + length n.stages + length n.stages ≤ budget * length n.stages
few_more n f budget tables p least is unended =
    let few = is.few in
    let room = (goes_on n p.found least (length p.nodes) budget unended).room in
    let most = mul-le-mul_right (length n.stages) room in
    let rows = rows_more (length p.nodes) (length n.stages) in
    omega (arith, few, most, rows)
