-- The certificate of a search.
use Rattle.std.specs.Prelude.{◌≡◌, ◌≢◌, ℕ, zero, suc, ◌<◌, ◌≤◌, List, [], ◌∷◌, length, None, Some, Contains, ⊤}
use Rattle.service_model.specs.declared.cert_rules.TheConstants.{SHAPE}
use Rattle.service_model.specs.declared.cert.Node.{Node}
use Rattle.service_model.specs.declared.cert.Cert.{Cert}
use Rattle.service_model.specs.declared.cert.Item.{Item}
use Rattle.service_model.specs.Net.{Net}
use Rattle.service_model.specs.Nodes.{below_roots}
use Rattle.service_model.specs.Items.{items_of}
use Rattle.service_model.specs.Held.{Held, none_held, held_with, node_at, range_of}
use Rattle.service_model.specs.CertRules.{Rule}
use Rattle.service_model.specs.Certs.{AllKeep}
use Rattle.cert_laws.specs.Grown.{IsWhole}
use Rattle.tree_order.specs.declared.forest.Forest.{Forest}
use Rattle.table_pool.specs.Pools.{IsPool}
use Rattle.arc_relax.specs.StageTables.{StandInOrder}
use Rattle.range_nodes.specs.Nodes.{IsRangeNode}

-- what a certificate shows, but for its verdict
abbrev pub shown_by : Cert → Held
shown_by c = record { head = Some c.head; tables = c.tables; nodes = c.nodes; splits = c.splits; verdict = None }

-- each node is its range, relaxed over the forest
abbrev pub AreRelaxed : Net → Forest → Cert → Type 0
AreRelaxed n f c = (k : ℕ) → k < length c.nodes → IsRangeNode n f c.tables (range_of n (shown_by c) k) (node_at c.nodes k)

-- how many tables came before node k: as many as the node before it has seen
abbrev pub seen_before : List Node → ℕ → ℕ
seen_before nodes zero = 0
seen_before nodes (suc k) = (node_at nodes k).seen

-- the tables that come with node k, behind those of the nodes before it, are tables of the node, and stand in the forest's order
pub record AreInTurn (f : Forest) (c : Cert) (k : ℕ) : Type 0 where
  pub later : seen_before c.nodes k ≤ (node_at c.nodes k).seen
  pub used : (i : ℕ) → seen_before c.nodes k ≤ i → i < (node_at c.nodes k).seen → Contains (below_roots c.tables (node_at c.nodes k).roots) i
  pub order : StandInOrder f.order c.tables (seen_before c.nodes k) (node_at c.nodes k).seen

-- the certificate is a search's own: no rule fails on its items; its tables have the least values, and none stands twice; each
-- node is its range, relaxed over the forest; and each table comes with the first node that uses it
pub record IsOwn (n : Net) (f : Forest) (budget : ℕ) (c : Cert) : Type 0 where
  pub keep : AllKeep n none_held (items_of c)
  pub budget_is : c.head.budget ≡ budget
  pub whole : IsWhole c
  pub tables : IsPool n c.tables
  pub nodes : AreRelaxed n f c
  pub turns : (k : ℕ) → k < length c.nodes → AreInTurn f c k

-- all rules hold of each of the items, one after another, but perhaps the one on the sizes of numbers, so that a head may have any budget
abbrev pub AllHold : Net → Held → List Item → Type 0
AllHold n h [] = ⊤
AllHold n h (x ∷ items) = ((rule : ℕ) → rule ≢ SHAPE → Rule n h x rule) × AllHold n (held_with h x) items
