-- What is gathered of items, one after another, for their certificate.
use Rattle.std.specs.Prelude.{◌≤◌, ℕ, ◌+◌, Bool, true, not, ◌&&◌, List, [], ◌∷◌, ◌++◌, length, Option, Some, None, is_none, vec_len, vec_capacity, ⊤, if◌then◌else◌}
use Rattle.service_model.specs.declared.table.Table.{Table}
use Rattle.service_model.specs.declared.cert.Head.{Head}
use Rattle.service_model.specs.declared.cert.Node.{Node}
use Rattle.service_model.specs.declared.cert.Split.{Split}
use Rattle.service_model.specs.declared.cert.Verdict.{Verdict}
use Rattle.service_model.specs.declared.cert.Cert.{Cert}
use Rattle.service_model.specs.declared.cert.Item.{Item}
use Rattle.service_model.specs.declared.cert.Item.TheVariants.{Head as HeadItem, Table as TableItem, Node as NodeItem, Split as SplitItem, End as EndItem}
use Rattle.service_model.specs.declared.parts.Parts.{Parts}
use Rattle.service_model.specs.Items.{is_head, tables_in, nodes_in, splits_in}

-- the parts of a certificate that came, and whether all came in order: a head first and nothing behind a verdict
pub record Gathered : Type 0 where
  pub head : Option Head
  pub tables : List Table
  pub nodes : List Node
  pub splits : List Split
  pub verdict : Option Verdict
  pub in_order : Bool

-- the lists behind the parts
abbrev pub gathered_by : Parts → Gathered
gathered_by p = record {
  head = p.head;
  tables = p.tables.items;
  nodes = p.nodes.items;
  splits = p.splits.items;
  verdict = p.verdict;
  in_order = p.in_order;
}

-- nothing is gathered
abbrev pub none_gathered : Gathered
none_gathered = record { head = None; tables = []; nodes = []; splits = []; verdict = None; in_order = true }

-- the item may come next: a head where none came, another item where one came, and none behind a verdict
abbrev pub may_come : Gathered → Item → Bool
may_come g item = is_none g.verdict && (if is_none g.head then is_head item else not (is_head item))

-- an item joins those of its kind
abbrev pub with_part : Gathered → Bool → Item → Gathered
with_part g in_order (HeadItem h) = record g { head = Some h; in_order = in_order }
with_part g in_order (TableItem t) = record g { tables = g.tables ++ t ∷ []; in_order = in_order }
with_part g in_order (NodeItem x) = record g { nodes = g.nodes ++ x ∷ []; in_order = in_order }
with_part g in_order (SplitItem s) = record g { splits = g.splits ++ s ∷ []; in_order = in_order }
with_part g in_order (EndItem v) = record g { verdict = Some v; in_order = in_order }

-- what is gathered with one more item
abbrev pub with_item : Gathered → Item → Gathered
with_item g item = with_part g (g.in_order && may_come g item) item

-- what is gathered with more items
abbrev pub with_items : Gathered → List Item → Gathered
with_items g [] = g
with_items g (x ∷ items) = with_items (with_item g x) items

-- the certificate of what is gathered with a head and a verdict, where there are both
abbrev pub cert_with : Gathered → Option Head → Option Verdict → Option Cert
cert_with g None verdict = None
cert_with g (Some h) None = None
cert_with g (Some h) (Some v) = Some (record { head = h; tables = g.tables; nodes = g.nodes; splits = g.splits; verdict = v })

-- the certificate that is gathered, where a head and a verdict came in order
abbrev pub cert_by : Gathered → Option Cert
cert_by g = if g.in_order then cert_with g g.head g.verdict else None

-- there is room for these items behind what is gathered
pub record HasRoom (p : Parts) (items : List Item) : Type 0 where
  pub tables : vec_len p.tables + length (tables_in items) ≤ vec_capacity p.tables
  pub nodes : vec_len p.nodes + length (nodes_in items) ≤ vec_capacity p.nodes
  pub splits : vec_len p.splits + length (splits_in items) ≤ vec_capacity p.splits

-- there is room for so many more items of the item's kind
abbrev pub HasRoomOf : Parts → Item → ℕ → Type 0
HasRoomOf p (HeadItem h) count = ⊤
HasRoomOf p (TableItem t) count = vec_len p.tables + count ≤ vec_capacity p.tables
HasRoomOf p (NodeItem x) count = vec_len p.nodes + count ≤ vec_capacity p.nodes
HasRoomOf p (SplitItem s) count = vec_len p.splits + count ≤ vec_capacity p.splits
HasRoomOf p (EndItem v) count = ⊤
