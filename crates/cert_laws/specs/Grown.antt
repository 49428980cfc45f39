-- Certificates that grow by a split and its two nodes.
use Rattle.std.specs.Prelude.{◌≡◌, ℕ, ◌+◌, ◌*◌, ◌<◌, ◌≤◌, List, [], ◌∷◌, ◌++◌, length, map, take, All}
use Rattle.service_model.specs.declared.table.Table.{Table}
use Rattle.service_model.specs.declared.cert.Node.{Node}
use Rattle.service_model.specs.declared.cert.Split.{Split}
use Rattle.service_model.specs.declared.cert.Cert.{Cert}
use Rattle.service_model.specs.declared.cert.Item.{Item}
use Rattle.service_model.specs.declared.cert.Item.TheVariants.{Head as HeadItem, Table as TableItem, Node as NodeItem}
use Rattle.service_model.specs.Net.{Net}
use Rattle.service_model.specs.Tables.{table_at}
use Rattle.service_model.specs.CertNumbers.{TableInRange}
use Rattle.service_model.specs.Items.{items_from}
use Rattle.service_model.specs.Held.{node_at}
use Rattle.service_model.specs.CertRules.{TableRule}

-- two nodes for each split and the first, none has seen more tables than there are, and the last has seen all
pub record IsWhole (c : Cert) : Type 0 where
  pub nodes : length c.nodes ≡ 2 * length c.splits + 1
  pub seen : All (λ x. x.seen ≤ length c.tables) c.nodes
  pub last : (node_at c.nodes (2 * length c.splits)).seen ≡ length c.tables

-- the items of a certificate without its verdict
abbrev pub open_items : Cert → List Item
open_items c = HeadItem c.head ∷ items_from c 0 0 c.nodes

-- a node, and before it the tables that are new with it
abbrev pub node_items : List Table → Node → List Item
node_items tables x = map TableItem tables ++ NodeItem x ∷ []

-- the certificate with one split more and its two nodes, each with its new tables
abbrev pub grown : Cert → Split → List Table → Node → List Table → Node → Cert
grown c s front x back y = record c {
  tables = (c.tables ++ front) ++ back;
  nodes = (c.nodes ++ x ∷ []) ++ y ∷ [];
  splits = c.splits ++ s ∷ [];
}

-- each of the tables keeps its rules, over those that came and those before it
abbrev pub TablesKeep : Net → List Table → List Table → Type 0
TablesKeep n came more =
    (i : ℕ) → i < length more → TableInRange (table_at more i) × ((rule : ℕ) → TableRule n (came ++ take i more) (table_at more i) rule)
