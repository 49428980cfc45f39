-- How many nodes are enough for a search.
use Rattle.std.specs.Prelude.{ℕ, ◌+◌, ◌-◌, ◌*◌, ◌^◌, ◌==◌, Bool, length, if◌then◌else◌}
use Rattle.std.specs.List.{list_any}
use Rattle.service_model.specs.Net.{Net, arc_in}
use Rattle.service_model.specs.Search.{sum_below}
use Rattle.tree_order.specs.declared.forest.Forest.{Forest}

-- stage j is the supplier on an arc that the forest drops
abbrev pub is_dropped_supplier : Net → Forest → ℕ → Bool
is_dropped_supplier n f j = list_any (λ a. (arc_in n.arcs a).supplier == j) f.dropped

-- how many stages are suppliers on dropped arcs
abbrev pub dropped_suppliers : Net → Forest → ℕ
dropped_suppliers n f = sum_below (λ j. if is_dropped_supplier n f j then 1 else 0) (length n.stages)

-- the nodes of a search that splits the intervals of these suppliers down to single times: one for each choice of their times, and one
-- less above them
abbrev pub enough_of : Net → Forest → ℕ
enough_of n f = 2 * (n.horizon + 1) ^ dropped_suppliers n f - 1
