-- The items of a certificate, and the certificate of a list of items.
use Rattle.std.specs.Prelude.{ℕ, ◌+◌, ◌/◌, ◌%◌, ◌==◌, max, Bool, true, false, List, [], ◌∷◌, ◌++◌, map, take, drop, Option, Some, None, option_map, if◌then◌else◌}
use Rattle.std.specs.List.{filter_map}
use Rattle.service_model.specs.declared.table.Table.{Table}
use Rattle.service_model.specs.declared.cert.Node.{Node}
use Rattle.service_model.specs.declared.cert.Split.{Split}
use Rattle.service_model.specs.declared.cert.Verdict.{Verdict}
use Rattle.service_model.specs.declared.cert.Cert.{Cert}
use Rattle.service_model.specs.declared.cert.Item.{Item}
use Rattle.service_model.specs.declared.cert.Item.TheVariants.{Head as HeadItem, Table as TableItem, Node as NodeItem, Split as SplitItem, End as EndItem}

-- the item is a head
abbrev pub is_head : Item → Bool
is_head (HeadItem h) = true
is_head (TableItem t) = false
is_head (NodeItem x) = false
is_head (SplitItem s) = false
is_head (EndItem v) = false

-- the table, where the item is one
abbrev pub table_of : Item → Option Table
table_of (HeadItem h) = None
table_of (TableItem t) = Some t
table_of (NodeItem x) = None
table_of (SplitItem s) = None
table_of (EndItem v) = None

-- the node, where the item is one
abbrev pub node_of : Item → Option Node
node_of (HeadItem h) = None
node_of (TableItem t) = None
node_of (NodeItem x) = Some x
node_of (SplitItem s) = None
node_of (EndItem v) = None

-- the split, where the item is one
abbrev pub split_of : Item → Option Split
split_of (HeadItem h) = None
split_of (TableItem t) = None
split_of (NodeItem x) = None
split_of (SplitItem s) = Some s
split_of (EndItem v) = None

-- the tables among items, in their order
abbrev pub tables_in : List Item → List Table
tables_in items = filter_map table_of items

-- the nodes among items, in their order
abbrev pub nodes_in : List Item → List Node
nodes_in items = filter_map node_of items

-- the splits among items, in their order
abbrev pub splits_in : List Item → List Split
splits_in items = filter_map split_of items

-- the verdict of items that end with one, and have no other and no head
abbrev pub verdict_of : List Item → Option Verdict
verdict_of [] = None
verdict_of (HeadItem h ∷ items) = None
verdict_of (TableItem t ∷ items) = verdict_of items
verdict_of (NodeItem x ∷ items) = verdict_of items
verdict_of (SplitItem s ∷ items) = verdict_of items
verdict_of (EndItem v ∷ []) = Some v
verdict_of (EndItem v ∷ x ∷ items) = None

-- the certificate of items that begin with a head, end with a verdict, and have no other of either
abbrev pub cert_of : List Item → Option Cert
cert_of [] = None
cert_of (HeadItem h ∷ items) =
    option_map
    (λ v. record { head = h; tables = tables_in items; nodes = nodes_in items; splits = splits_in items; verdict = v })
    (verdict_of items)
cert_of (TableItem t ∷ items) = None
cert_of (NodeItem x ∷ items) = None
cert_of (SplitItem s ∷ items) = None
cert_of (EndItem v ∷ items) = None

-- the split that comes after node k: split k / 2 where k is even and there is one
abbrev pub split_after : List Split → ℕ → List Split
split_after splits k = if k % 2 == 0 then take 1 (drop (k / 2) splits) else []

-- the items of the nodes from node k on, where so many tables came before: a node comes after the tables that it has
-- seen, and after the last node come the tables and splits that are left
abbrev pub items_from : Cert → ℕ → ℕ → List Node → List Item
items_from c k came [] = map TableItem (drop came c.tables) ++ map SplitItem (drop ((k + 1) / 2) c.splits)
items_from c k came (x ∷ nodes) =
    map TableItem (drop came (take x.seen c.tables))
    ++ NodeItem x ∷ map SplitItem (split_after c.splits k)
    ++ items_from c (k + 1) (max came x.seen) nodes

-- the items of a certificate, in the order in which they are written and checked
abbrev pub items_of : Cert → List Item
items_of c = HeadItem c.head ∷ items_from c 0 0 c.nodes ++ EndItem c.verdict ∷ []
