-- The trial network of a seed: which of its words gives which number.
use Rattle.std.specs.Prelude.{ℕ, zero, suc, ◌+◌, ◌-◌, ◌*◌, ◌==◌, min, List, length, map, if◌then◌else◌}
use Rattle.std.specs.List.{range_with_len}
use Rattle.trial_rows.specs.declared.drawn.TrialStage.{TrialStage}
use Rattle.trial_rows.specs.declared.drawn.TrialArc.{TrialArc}
use Rattle.gsm_gen.specs.Words.{drawn}
use Rattle.gsm_gen.specs.Joins.{directed, with_arc}

-- stage k takes words 4k to 4k + 3: a rank below 1,000, a lead of at most 10 and the horizon, a factor of 1 to 100, a unit of 1 to 50
abbrev pub drawn_stage : ℕ → ℕ → ℕ → TrialStage
drawn_stage seed horizon k = record {
  rank = drawn seed (4 * k) 1000;
  lead = drawn seed (4 * k + 1) (min 10 horizon + 1);
  factor = 1 + drawn seed (4 * k + 2) 100;
  unit = 1 + drawn seed (4 * k + 3) 50;
}

-- so many stages, in the order of their numbers
unfoldable pub drawn_stages : ℕ → ℕ → ℕ → List TrialStage
drawn_stages seed horizon count = map (drawn_stage seed horizon) (range_with_len 0 count)

-- the first word behind those of the stages
abbrev pub tree_word : List TrialStage → ℕ
tree_word stages = 4 * length stages

-- the arc of stage k, from 1 on, and a stage of lower number, by one word
unfoldable pub tree_arc : ℕ → List TrialStage → ℕ → TrialArc
tree_arc seed stages k = directed stages (drawn seed (tree_word stages + (k - 1)) k) k

-- the arcs of so many stages from stage 1 on, which join each of them to one of lower number
unfoldable pub tree_arcs : ℕ → List TrialStage → ℕ → List TrialArc
tree_arcs seed stages count = map (tree_arc seed stages) (range_with_len 1 count)

-- the word by which the first end of pair e is drawn; the next gives its second end
abbrev pub pair_word : List TrialStage → ℕ → ℕ
pair_word stages e = tree_word stages + (length stages - 1) + 2 * e

-- the arcs with that of a pair of stages, where it is a pair and no arc joins them
unfoldable pub with_pair : List TrialStage → List TrialArc → ℕ → ℕ → List TrialArc
with_pair stages arcs i j = if i == j then arcs else with_arc arcs (directed stages i j)

-- the arcs of all stages from stage 1 on, and of so many pairs
unfoldable pub arcs_after : ℕ → List TrialStage → ℕ → List TrialArc
arcs_after seed stages zero = tree_arcs seed stages (length stages - 1)
arcs_after seed stages (suc e) =
    with_pair stages (arcs_after seed stages e) (drawn seed (pair_word stages e) (length stages)) (drawn seed (pair_word stages e + 1) (length stages))
