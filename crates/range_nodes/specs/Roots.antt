-- The roots of a node, and their order.
use Rattle.std.specs.Prelude.{◌≡◌, ℕ, ◌<◌, List, map, reverse, AllPairs}
use Rattle.service_model.specs.declared.table.Table.{Table}
use Rattle.service_model.specs.Tables.{table_at}
use Rattle.tree_order.specs.declared.forest.Forest.{Forest}
use Rattle.tree_order.specs.Forest.{roots_of}

-- the roots stand by the numbers of their tables' stages, the lowest first
abbrev pub RiseByStage : List Table → List ℕ → Type 0
RiseByStage tables roots = AllPairs (λ i j. i < j) (map (λ k. (table_at tables k).stage) roots)

-- the roots are tables of all roots of the forest, from the last of its order on
abbrev pub AreRootsOf : Forest → List Table → List ℕ → Type 0
AreRootsOf f tables roots = map (λ k. (table_at tables k).stage) roots ≡ reverse (roots_of f)
