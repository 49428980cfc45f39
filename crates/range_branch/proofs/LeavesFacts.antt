-- The leaves of a search in which one is split.
use Rattle.std.proofs.Common.{◌≡◌, ◌≢◌, ℕ, ◌+◌, ◌*◌, ◌<◌, List, [], ◌∷◌, ◌++◌, length, sym, ap, ◌∙◌, inl, inr, ⊎_elim, arith}
use Rattle.std.specs.Prelude.{Contains, slice_index_or}
use Rattle.std.proofs.lemmas.List.{get_or_push, get_or_append_left, length_push}
use Rattle.service_model.specs.declared.table.Table.{Table}
use Rattle.service_model.specs.Net.{Net}
use Rattle.service_model.specs.Nodes.{bound_of}
use Rattle.service_model.specs.CertRanges.{Cut, IsCut, AreCuts, node_bound}
use Rattle.open_leaves.specs.declared.leaf.Leaf.{Leaf}
use Rattle.range_splits.specs.Open.{AreLeaves}
use Rattle.range_splits.proofs.LeafFacts.{leaves_law}
use Rattle.range_branch.specs.Progress.{AreReplaced, leaf_of}
use Rattle.range_branch.proofs.FirstFacts.{same_leaf}

-- what the leaves are before and after a cut: their tables, roots and bounds
pub record AreCutLeaves (n : Net) (old new : List Table) (roots : List (List ℕ)) (xs ys : List ℕ) (cuts : List Cut) (c : Cut) (leaf left right : Leaf) : Type 0 where
  pub cuts_are : AreCuts n cuts
  pub cut : IsCut n cuts c
  pub many : length roots ≡ 2 * length cuts + 1
  pub same : (k : ℕ) → k < length roots → bound_of new (slice_index_or roots k []) ≡ bound_of old (slice_index_or roots k [])
  pub named : leaf.node ≡ c.node
  pub left_is : left ≡ leaf_of (bound_of new xs) (length roots)
  pub right_is : right ≡ leaf_of (bound_of new ys) (length roots + 1)

abbrev both_roots : List (List ℕ) → List ℕ → List ℕ → List (List ℕ)
both_roots roots xs ys = (roots ++ xs ∷ []) ++ ys ∷ []

old_bound : (new : List Table) (roots : List (List ℕ)) (xs ys : List ℕ) (k : ℕ) → k < length roots
    → node_bound new (both_roots roots xs ys) k ≡ bound_of new (slice_index_or roots k [])
old_bound new roots xs ys k within =
    ap (bound_of new)
    (get_or_append_left (roots ++ xs ∷ []) (ys ∷ []) [] k (omega (arith, within, length_push roots xs)) ∙ get_or_append_left roots (xs ∷ []) [] k within)

left_bound : (new : List Table) (roots : List (List ℕ)) (xs ys : List ℕ) (k : ℕ) → k ≡ length roots → node_bound new (both_roots roots xs ys) k ≡ bound_of new xs
left_bound new roots xs ys k at =
    ap (bound_of new)
    (get_or_append_left (roots ++ xs ∷ []) (ys ∷ []) [] k (omega (arith, at, length_push roots xs)) ∙ get_or_push roots xs [] k (sym at))

right_bound : (new : List Table) (roots : List (List ℕ)) (xs ys : List ℕ) (k : ℕ) → k ≡ length roots + 1 → node_bound new (both_roots roots xs ys) k ≡ bound_of new ys
right_bound new roots xs ys k at = ap (bound_of new) (get_or_push (roots ++ xs ∷ []) ys [] k (omega (arith, at, length_push roots xs)))

pub leaves_more : (n : Net) (old new : List Table) (roots : List (List ℕ)) (xs ys : List ℕ) (cuts : List Cut) (c : Cut) (leaf left right : Leaf) (before after : List Leaf)
    → AreCutLeaves n old new roots xs ys cuts c leaf left right → AreLeaves old roots cuts before → Contains before leaf
    → AreReplaced before after leaf left right → AreLeaves new ((roots ++ xs ∷ []) ++ ys ∷ []) (cuts ++ c ∷ []) after
leaves_more n old new roots xs ys cuts c leaf left right before after is are there replaced q =
    let rule = leaves_law n cuts c q.node is.cuts_are is.cut in
    let change = replaced q in
    let many = is.many in (
      λ now. ⊎_elim
          (λ kept.
          let own = (are q).0 kept.0 in
          let low : q.node < length roots = let low = own.0.there in omega (arith, low, many) in
          let apart : q.node ≢ c.node = λ same.
          let leaf_own = (are leaf).0 there in
          let at : q.node ≡ leaf.node = same ∙ sym is.named in
          kept.1 (same_leaf q leaf.bound leaf.node (own.1 ∙ ap (node_bound old roots) at ∙ sym leaf_own.1) at) in
          (rule.1 (inl (own.0, apart)), own.1 ∙ sym (is.same q.node low) ∙ sym (old_bound new roots xs ys q.node low)))
          (λ half. ⊎_elim
          (λ same.
          let at : q.node ≡ length roots = ap (λ (l : Leaf). l.node) (same ∙ is.left_is) in
          (rule.1 (inr (inl (omega (arith, at, many)))), ap (λ (l : Leaf). l.bound) (same ∙ is.left_is) ∙ sym (left_bound new roots xs ys q.node at)))
          (λ same.
          let at : q.node ≡ length roots + 1 = ap (λ (l : Leaf). l.node) (same ∙ is.right_is) in
          (rule.1 (inr (inr (omega (arith, at, many)))), ap (λ (l : Leaf). l.bound) (same ∙ is.right_is) ∙ sym (right_bound new roots xs ys q.node at)))
          half)
          (change.0 now),
      λ own. ⊎_elim
          (λ kept.
          let low : q.node < length roots = let low = kept.0.there in omega (arith, low, many) in
          let was = (are q).1 (kept.0, own.1 ∙ old_bound new roots xs ys q.node low ∙ is.same q.node low) in
          change.1 (inl (was, λ same. kept.1 (ap (λ (l : Leaf). l.node) same ∙ is.named))))
          (λ half. ⊎_elim
          (λ at'.
          let at : q.node ≡ length roots = omega (arith, at', many) in
          change.1 (inr (inl (same_leaf q (bound_of new xs) (length roots) (own.1 ∙ left_bound new roots xs ys q.node at) at ∙ sym is.left_is))))
          (λ at'.
          let at : q.node ≡ length roots + 1 = omega (arith, at', many) in
          change.1 (inr (inr (same_leaf q (bound_of new ys) (length roots + 1) (own.1 ∙ right_bound new roots xs ys q.node at) at ∙ sym is.right_is))))
          half)
          (rule.0 own.0),
    )
