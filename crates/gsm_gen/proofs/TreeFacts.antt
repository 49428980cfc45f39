-- The arcs of the tree join no two stages twice.
use Rattle.std.proofs.Common.{◌≡◌, ◌⊎◌, ◌<◌, ◌≤◌, ℕ, ◌+◌, ◌-◌, Bool, true, false, List, length, get_or, cond, refl, inl, inr, arith}
use Rattle.std.specs.List.{All}
use Rattle.std.proofs.Math.Nat.{mod-lt}
use Rattle.std.proofs.lemmas.Bool.Decides.{nat_tests}
use Rattle.std.proofs.lemmas.List.Folds.{list_any_none}
use Rattle.std.proofs.lemmas.List.Elements.{All-from_get_or}
use Rattle.std.proofs.lemmas.List.FromFn.{get_or-map-range_with_len, length-map-range_with_len}
use Rattle.trial_rows.specs.declared.drawn.TrialStage.{TrialStage}
use Rattle.trial_rows.specs.declared.drawn.TrialArc.{TrialArc}
use Rattle.gsm_gen.specs.Words.{word, drawn}
use Rattle.gsm_gen.specs.Joins.{is_before, directed, joins, are_joined, with_arc}
use Rattle.gsm_gen.specs.Networks.{tree_word, tree_arc, tree_arcs}
use Rattle.gsm_gen.proofs.NetworkFacts.{tree_more}

-- the ends of an arc are these two stages
pub record HasBoth (i j : ℕ) (a : TrialArc) : Type 0 where
  pub ends : ((a.supplier ≡ i) × (a.customer ≡ j)) ⊎ ((a.supplier ≡ j) × (a.customer ≡ i))

-- the arc between two stages has them for its ends
pub directed_both : (stages : List TrialStage) (i j : ℕ) → HasBoth i j (directed stages i j)
unfolding directed
directed_both stages i j = record { ends = both (is_before stages i j) }
  where
    both : (b : Bool) → let a : TrialArc = cond b (record { supplier = i; customer = j }) (record { supplier = j; customer = i }) in
        ((a.supplier ≡ i) × (a.customer ≡ j)) ⊎ ((a.supplier ≡ j) × (a.customer ≡ i))
    both true = inl (refl, refl)
    both false = inr (refl, refl)

-- a number drawn below one that is not 0 is below it
pub drawn_below : (seed n among : ℕ) → 1 ≤ among → drawn seed n among < among
drawn_below seed n among some = mod-lt (word seed n) some

-- both ends of an arc are at most this stage
pub record EndsUpTo (k : ℕ) (a : TrialArc) : Type 0 where
  pub supplier : a.supplier ≤ k
  pub customer : a.customer ≤ k

-- the arc of stage k goes no further
pub tree_arc_up_to : (seed : ℕ) (stages : List TrialStage) (k : ℕ) → 1 ≤ k → EndsUpTo k (tree_arc seed stages k)
unfolding tree_arc
tree_arc_up_to seed stages k some =
    let j = drawn seed (tree_word stages + (k - 1)) k in
    let below : j < k = drawn_below seed (tree_word stages + (k - 1)) k some in
    let both = (directed_both stages j k).ends in
    record { supplier = omega (arith, both, below); customer = omega (arith, both, below) }

-- nor do the arcs of the stages up to it
pub tree_up_to : (seed : ℕ) (stages : List TrialStage) (count : ℕ) → All (EndsUpTo count) (tree_arcs seed stages count)
unfolding tree_arcs
tree_up_to seed stages count = All-from_get_or (EndsUpTo count) (tree_arcs seed stages count) none up
  where
    none : TrialArc
    none = record { supplier = 0; customer = 0 }

    up : (i : ℕ) → i < length (tree_arcs seed stages count) → EndsUpTo count (get_or (tree_arcs seed stages count) i none)
    up i within =
        let short : i < count = omega (arith, length-map-range_with_len (tree_arc seed stages) 1 count) in
        let this = get_or-map-range_with_len (tree_arc seed stages) 1 count i (1 + i) none short refl in
        let ends = tree_arc_up_to seed stages (1 + i) (omega arith) in
        rw this (record { supplier = omega (arith, ends.supplier); customer = omega (arith, ends.customer) })

-- an arc that goes no further than the stages before k joins none to k
pub joins_none : (i j k : ℕ) (a b : TrialArc) → HasBoth j k a → EndsUpTo (k - 1) b → 1 ≤ k → joins a.supplier a.customer b ≡ false
joins_none i j k a b both up some =
    let ends = both.ends in
    let supplier = up.supplier in
    let customer = up.customer in
    grind (arith, nat_tests)

-- so no arc of the stages before k joins stage k
pub tree_fresh : (seed : ℕ) (stages : List TrialStage) (j k : ℕ) → 1 ≤ k → are_joined (tree_arcs seed stages (k - 1)) (directed stages j k).supplier (directed stages j k).customer ≡ false
tree_fresh seed stages j k some =
    let a = directed stages j k in
    list_any_none (joins a.supplier a.customer) (tree_arcs seed stages (k - 1))
    (λ i d within. joins_none 0 j k a (get_or (tree_arcs seed stages (k - 1)) i d) (directed_both stages j k) (tree_up_to seed stages (k - 1) i d within) some)

-- and adding the arc of stage k puts it behind them
pub tree_added : (seed : ℕ) (stages : List TrialStage) (k : ℕ) → 1 ≤ k → with_arc (tree_arcs seed stages (k - 1)) (tree_arc seed stages k) ≡ tree_arcs seed stages k
unfolding with_arc tree_arc
tree_added seed stages k some = rw (tree_fresh seed stages (drawn seed (tree_word stages + (k - 1)) k) k some, tree_more seed stages k some) refl
