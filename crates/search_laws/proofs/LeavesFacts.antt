-- The leaves of cuts, and how many choices of times are left in them.
use Rattle.std.proofs.Common.{◌≡◌, ℕ, ◌+◌, ◌*◌, ◌<◌, ◌≤◌, Bool, true, List, [], ◌∷◌, ◌++◌, length, sym, ap, ◌∙◌, subst, inl, inr, ⊎_elim, arith}
use Rattle.std.specs.Prelude.{sum_by}
use Rattle.std.specs.List.{AllByRecursion}
use Rattle.std.proofs.lemmas.List.Sums.{sum_by-cons}
use Rattle.service_model.specs.Net.{Net}
use Rattle.service_model.specs.Networks.{IsNetwork}
use Rattle.service_model.specs.Ranges.{whole_of}
use Rattle.service_model.specs.CertRanges.{Cut, node_range, IsLeaf, AreCuts}
use Rattle.gsm_laws.proofs.ElementFacts.{each}
use Rattle.cert_laws.proofs.CutFacts.{more_cuts, old_node, left_node, right_node, old_left_right}
use Rattle.cert_laws.proofs.SplitFacts.{cuts_more}
use Rattle.range_splits.proofs.LeafFacts.{leaves_law}
use Rattle.search_laws.proofs.PartFacts.{IsPart, whole_part, ended_part, started_part}
use Rattle.search_laws.proofs.ChoiceFacts.{choices, choices_some, choices_halves}
use Rattle.search_laws.proofs.HalvingFacts.{IsHalving, Each, by_each}
use Rattle.search_laws.proofs.OutFacts.{Has, take_out, same_sum}

-- the cut halves a leaf at one of the stages told
abbrev pub IsToldHalving : (ℕ → Bool) → Net → List Cut → Cut → Type 0
IsToldHalving told n earlier c = IsHalving n earlier c × (told c.stage ≡ true)

-- the leaves, one more than there are cuts; the choices left in them are those of the whole range
pub record HasLeaves (told : ℕ → Bool) (n : Net) (cuts : List Cut) : Type 0 where
  pub are : AreCuts n cuts
  pub parts : (k : ℕ) → k < 2 * length cuts + 1 → IsPart n (node_range n cuts k)
  pub leaves : List ℕ
  pub long : length leaves ≡ length cuts + 1
  pub low : AllByRecursion (λ k. k < 2 * length cuts + 1) leaves
  pub each_leaf : (k : ℕ) → IsLeaf cuts k → Has leaves k
  pub sum : sum_by (λ k. choices told n (node_range n cuts k)) leaves ≡ choices told n (whole_of n)

one_leaf : (told : ℕ → Bool) (n : Net) → IsNetwork n → HasLeaves told n []
one_leaf told n valid = record {
  are = λ k within. absurd (omega arith);
  parts = λ k within. let first : 0 ≡ k = omega arith in subst (λ i. IsPart n (node_range n [] i)) first (whole_part n valid);
  leaves = 0 ∷ [];
  long = omega arith;
  low = (omega arith, tt);
  each_leaf = λ k leaf. inl (let low = leaf.there in omega (arith, low));
  sum = let one = sum_by-cons (λ k. choices told n (node_range n [] k)) 0 [] in omega (arith, one);
}

more_parts : (n : Net) (earlier : List Cut) (c : Cut) → IsHalving n earlier c → ((k : ℕ) → k < 2 * length earlier + 1 → IsPart n (node_range n earlier k))
    → (k : ℕ) → k < 2 * length (earlier ++ c ∷ []) + 1 → IsPart n (node_range n (earlier ++ c ∷ []) k)
more_parts n earlier c halving parts k within =
    let node = parts c.node halving.cut.leaf.there in
    ⊎_elim
    (λ low. subst (IsPart n) (sym (old_node n earlier c k low)) (parts k low))
    (⊎_elim
    (λ is.
    subst (IsPart n) (sym (ap (node_range n (earlier ++ c ∷ [])) is ∙ left_node n earlier c)) (ended_part n _ c.stage c.last node halving.cut.holds))
    (λ is.
    subst (IsPart n) (sym (ap (node_range n (earlier ++ c ∷ [])) is ∙ right_node n earlier c))
    (started_part n _ c.stage c.last node halving.cut.holds halving.next)))
    (old_left_right earlier c k within)

one_more : (told : ℕ → Bool) (n : Net) (earlier : List Cut) (c : Cut) → IsToldHalving told n earlier c → HasLeaves told n earlier
    → HasLeaves told n (earlier ++ c ∷ [])
one_more told n earlier c (halving, is) has =
    let m = length earlier in
    let left = 2 * m + 1 in
    let right = 2 * m + 2 in
    let more = earlier ++ c ∷ [] in
    let grown = more_cuts earlier c in
    let before = λ (k : ℕ). choices told n (node_range n earlier k) in
    let after = λ (k : ℕ). choices told n (node_range n more k) in
    let out = take_out before left has.leaves c.node has.low (has.each_leaf c.node halving.cut.leaf) in
    record {
      are = cuts_more n earlier c has.are halving.cut;
      parts = more_parts n earlier c halving has.parts;
      leaves = left ∷ right ∷ out.rest;
      long = let long = has.long in let less = out.long in omega (arith, long, less, grown);
      low = (
        omega (arith, grown),
        (omega (arith, grown), each (λ k. k < left) (λ k. k < 2 * length more + 1) (λ k low. omega (arith, low, grown)) out.rest out.low),
      );
      each_leaf = λ k leaf. ⊎_elim
          (λ old. inr (inr (out.others k (has.each_leaf k old.0) old.1)))
          (λ half. ⊎_elim (λ first. inl (sym first)) (λ second. inr (inl (sym second))) half)
          ((leaves_law n earlier c k has.are halving.cut).0 leaf);
      sum =
          let stage : c.stage < length n.stages = omega (arith, halving.cut.holds.least_there, (has.parts c.node halving.cut.leaf.there).intervals.least) in
          let halves = choices_halves told n (node_range n earlier c.node) c.stage c.last stage is halving.cut.holds halving.next in
          let ended_is = ap (choices told n) (left_node n earlier c) in
          let started_is = ap (choices told n) (right_node n earlier c) in
          let others = same_sum after before left out.rest (λ k low. ap (choices told n) (old_node n earlier c k low)) out.low in
          let sum = has.sum in
          let less = out.sum in
          omega (arith, sum_by-cons after left (right ∷ out.rest), sum_by-cons after right out.rest, halves, ended_is, started_is, others, sum, less);
    }

-- cuts at the stages told leave these leaves
pub has_leaves : (told : ℕ → Bool) (n : Net) (cuts : List Cut) → IsNetwork n → Each (IsToldHalving told n) cuts → HasLeaves told n cuts
has_leaves told n cuts valid are = by_each (IsToldHalving told n) (HasLeaves told n) (one_leaf told n valid) (one_more told n) cuts are

-- each leaf leaves a choice
pub some_choices : (told : ℕ → Bool) (n : Net) (cuts : List Cut) → (has : HasLeaves told n cuts)
    → AllByRecursion (λ k. 1 ≤ choices told n (node_range n cuts k)) has.leaves
some_choices told n cuts has =
    each (λ k. k < 2 * length cuts + 1) (λ k. 1 ≤ choices told n (node_range n cuts k))
    (λ k low. choices_some told n (node_range n cuts k) (has.parts k low).intervals) has.leaves has.low
