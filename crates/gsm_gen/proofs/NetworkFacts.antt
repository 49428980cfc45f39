-- The lists of a trial network, one more at a time.
use Rattle.std.proofs.Common.{◌≡◌, ◌≤◌, ℕ, ◌+◌, ◌-◌, List, [], ◌∷◌, ◌++◌, length, refl, ap, sym, ◌∙◌, arith, add-one}
use Rattle.std.proofs.lemmas.List.FromFn.{map-range_with_len_more}
use Rattle.trial_rows.specs.declared.drawn.TrialStage.{TrialStage}
use Rattle.gsm_gen.specs.Words.{drawn}
use Rattle.gsm_gen.specs.Networks.{drawn_stage, drawn_stages, tree_arc, tree_arcs, pair_word, with_pair, arcs_after}

-- no stages
pub stages_none : (seed horizon : ℕ) → drawn_stages seed horizon 0 ≡ []
unfolding drawn_stages
stages_none seed horizon = refl

-- one stage more
pub stages_more : (seed horizon k : ℕ) → drawn_stages seed horizon (k + 1) ≡ drawn_stages seed horizon k ++ drawn_stage seed horizon k ∷ []
unfolding drawn_stages
stages_more seed horizon k = map-range_with_len_more (drawn_stage seed horizon) 0 k k (omega arith)

-- no arcs of stages
pub tree_none : (seed : ℕ) (stages : List TrialStage) → tree_arcs seed stages 0 ≡ []
unfolding tree_arcs
tree_none seed stages = refl

-- the arc of one stage more
pub tree_more : (seed : ℕ) (stages : List TrialStage) (k : ℕ) → 1 ≤ k → tree_arcs seed stages k ≡ tree_arcs seed stages (k - 1) ++ tree_arc seed stages k ∷ []
unfolding tree_arcs
tree_more seed stages k some =
    let back : k - 1 + 1 ≡ k = omega arith in
    let place : 1 + (k - 1) ≡ k = omega arith in
    sym (ap (tree_arcs seed stages) back) ∙ map-range_with_len_more (tree_arc seed stages) 1 (k - 1) k place

-- no pairs
pub arcs_first : (seed : ℕ) (stages : List TrialStage) → arcs_after seed stages 0 ≡ tree_arcs seed stages (length stages - 1)
unfolding arcs_after
arcs_first seed stages = refl

-- one pair more
pub arcs_more : (seed : ℕ) (stages : List TrialStage) (e : ℕ) → arcs_after seed stages (e + 1)
    ≡ with_pair stages (arcs_after seed stages e) (drawn seed (pair_word stages e) (length stages)) (drawn seed (pair_word stages e + 1) (length stages))
unfolding arcs_after
arcs_more seed stages e = rw add-one refl
