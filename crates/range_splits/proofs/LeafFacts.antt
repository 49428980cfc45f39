-- The leaves where one more is cut.
use Rattle.std.proofs.Common.{◌≢◌, ℕ, ◌<◌, ◌+◌, ◌*◌, List, [], ◌∷◌, ◌++◌, length, inl, inr, ⊎_elim, subst, sym, ap, refl, arith, ◌∙◌}
use Rattle.std.specs.Prelude.{All}
use Rattle.std.proofs.lemmas.List.{get_or_push, get_or_append_left, get_or_default, length-take-le}
use Rattle.std.proofs.lemmas.List.Elements.{All-push}
use Rattle.service_model.specs.Net.{Net}
use Rattle.service_model.specs.CertRanges.{Cut, no_cut, IsCut, AreCuts, IsLeaf}
use Rattle.cert_laws.proofs.CutFacts.{more_cuts, old_left_right}
use Rattle.range_splits.specs.Laws.{LeavesLaw}

-- each cut names a node that there was before it
named : (n : Net) (cuts : List Cut) → AreCuts n cuts → All (λ x. x.node < 2 * length cuts + 1) cuts
named n cuts are i d within =
    let there = (are i within).leaf.there in
    let long = length-take-le i cuts (omega (arith, within)) in
    let same = ap (λ (x : Cut). x.node) (get_or_default cuts i d no_cut within) in
    omega (arith, there, long, same, within)

-- a leaf that there was before
old_leaf : (cuts : List Cut) (c : Cut) (k : ℕ) → k < 2 * length cuts + 1 → IsLeaf (cuts ++ c ∷ []) k → IsLeaf cuts k × (k ≢ c.node)
old_leaf cuts c k low leaf = (
  record {
    there = low;
    not_cut = λ i d within.
        subst (λ (x : Cut). x.node ≢ k) (get_or_append_left cuts (c ∷ []) d i within) (leaf.not_cut i d (omega (arith, within, more_cuts cuts c)));
  },
  λ is. leaf.not_cut (length cuts) c (omega (arith, more_cuts cuts c)) (ap (λ (x : Cut). x.node) (get_or_push cuts c c (length cuts) refl) ∙ sym is),
)

-- a half is a leaf
half_leaf : (n : Net) (cuts : List Cut) (c : Cut) (k : ℕ) → AreCuts n cuts → IsCut n cuts c → 2 * length cuts < k → k < 2 * length cuts + 3
    → IsLeaf (cuts ++ c ∷ []) k
half_leaf n cuts c k are cut late early = record {
  there = omega (arith, early, more_cuts cuts c);
  not_cut = All-push (λ x. x.node ≢ k) cuts c (λ i d within same. let low = named n cuts are i d within in absurd (omega (arith, low, same, late)))
      (λ same. let low = cut.leaf.there in absurd (omega (arith, low, same, late)));
}

pub leaves_law : LeavesLaw
leaves_law n cuts c k are cut = (
  λ leaf. ⊎_elim (λ low. inl (old_leaf cuts c k low leaf)) (λ half. inr half) (old_left_right cuts c k leaf.there),
  λ is. ⊎_elim
      (λ old. record {
        there = let low = old.0.there in omega (arith, low, more_cuts cuts c);
        not_cut = All-push (λ x. x.node ≢ k) cuts c old.0.not_cut (λ same. old.1 (sym same));
      })
      (λ half. ⊎_elim
      (λ left. half_leaf n cuts c k are cut (omega (arith, left)) (omega (arith, left)))
      (λ right. half_leaf n cuts c k are cut (omega (arith, right)) (omega (arith, right))) half)
      is,
)
