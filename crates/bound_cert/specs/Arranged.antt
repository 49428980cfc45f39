-- The items of a certificate, made while its tables and splits are used up.
use Rattle.std.specs.Prelude.{ℕ, ◌-◌, max, Bool, not, List, [], ◌∷◌, ◌++◌, map, take, drop, if◌then◌else◌}
use Rattle.service_model.specs.declared.table.Table.{Table}
use Rattle.service_model.specs.declared.cert.Node.{Node}
use Rattle.service_model.specs.declared.cert.Split.{Split}
use Rattle.service_model.specs.declared.cert.Item.{Item}
use Rattle.service_model.specs.declared.cert.Item.TheVariants.{Table as TableItem, Node as NodeItem, Split as SplitItem}
use Rattle.bound_cert.specs.declared.items.Arranged.{Arranged}

-- the items of nodes from one on whose number is even or not, where so many tables came and these tables and splits are left
abbrev pub items_on : Bool → ℕ → List Table → List Split → List Node → List Item
items_on even came tables splits [] = map TableItem tables ++ map SplitItem splits
items_on even came tables splits (x ∷ nodes) =
    map TableItem (take (x.seen - came) tables)
    ++ NodeItem x ∷ map SplitItem (if even then take 1 splits else [])
    ++ items_on (not even) (max came x.seen) (drop (x.seen - came) tables) (if even then drop 1 splits else splits) nodes

-- the items made, and those of the nodes that come
abbrev pub with_nodes : Arranged → List Node → List Item
with_nodes a nodes = a.items ++ items_on a.is_even a.came a.tables a.splits nodes
