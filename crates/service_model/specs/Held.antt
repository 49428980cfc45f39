-- What came of a certificate: its head, tables, nodes, splits and verdict, and the ranges and bounds of its nodes.
use Rattle.std.specs.Prelude.{ℕ, ◌-◌, ◌*◌, Bool, false, nat_lt, nat_le, List, [], ◌∷◌, ◌++◌, slice_index_or, map, Option, Some, None, option_map, unwrap_or}
use Rattle.service_model.specs.declared.plan.Plan.{Plan}
use Rattle.service_model.specs.declared.range.Range.{Range}
use Rattle.service_model.specs.declared.table.Table.{Table}
use Rattle.service_model.specs.declared.cert.Head.{Head}
use Rattle.service_model.specs.declared.cert.Node.{Node}
use Rattle.service_model.specs.declared.cert.Split.{Split}
use Rattle.service_model.specs.declared.cert.Verdict.{Verdict}
use Rattle.service_model.specs.declared.cert.Item.{Item}
use Rattle.service_model.specs.declared.cert.Item.TheVariants.{Head as HeadItem, Table as TableItem, Node as NodeItem, Split as SplitItem, End as EndItem}
use Rattle.service_model.specs.Net.{Net}
use Rattle.service_model.specs.Plans.{inbound_at}
use Rattle.service_model.specs.Tables.{transit_in}
use Rattle.service_model.specs.CertRanges.{Cut, node_range, node_bound}
use Rattle.service_model.specs.Verdicts.{Searched}

-- what came of a certificate: the items of each kind, in the order in which they came
pub record Held : Type 0 where
  pub head : Option Head
  pub tables : List Table
  pub nodes : List Node
  pub splits : List Split
  pub verdict : Option Verdict

-- nothing came
abbrev pub none_held : Held
none_held = record { head = None; tables = []; nodes = []; splits = []; verdict = None }

-- what came, and one more item
abbrev pub held_with : Held → Item → Held
held_with h (HeadItem g) = record h { head = Some g }
held_with h (TableItem t) = record h { tables = h.tables ++ t ∷ [] }
held_with h (NodeItem x) = record h { nodes = h.nodes ++ x ∷ [] }
held_with h (SplitItem s) = record h { splits = h.splits ++ s ∷ [] }
held_with h (EndItem v) = record h { verdict = Some v }

-- what came, and more items
abbrev pub held_after : Held → List Item → Held
held_after h [] = h
held_after h (x ∷ items) = held_after (held_with h x) items

-- how many nodes the head allows
abbrev pub budget_of : Held → ℕ
budget_of h = unwrap_or (option_map (λ g. g.budget) h.head) 0

-- what stands for a node that there is not
abbrev pub no_node : Node
no_node = record { seen = 0; roots = []; relaxed = None }

-- node k of a list
abbrev pub node_at : List Node → ℕ → Node
node_at nodes k = slice_index_or nodes k no_node

-- what stands for a plan that there is not
abbrev pub no_plan : Plan
no_plan = record { inbound = []; outbound = [] }

-- the relaxed plan of node k
abbrev pub relaxed_at : List Node → ℕ → Plan
relaxed_at nodes k = unwrap_or (node_at nodes k).relaxed no_plan

-- what a split cuts: the node's range after the greatest outbound time of the supplier that the node's relaxed plan meets
abbrev pub cut_by : Net → List Node → Split → Cut
cut_by n nodes s = record {
  node = s.node;
  stage = s.supplier;
  last = inbound_at (relaxed_at nodes s.node) s.customer - transit_in n.arcs s.supplier s.customer;
}

-- what the splits cut, in their order
abbrev pub cuts_of : Net → Held → List Cut
cuts_of n h = map (cut_by n h.nodes) h.splits

-- the roots of each node
abbrev pub roots_of : Held → List (List ℕ)
roots_of h = map (λ x. x.roots) h.nodes

-- the relaxed plan of each node
abbrev pub relaxed_of : Held → List (Option Plan)
relaxed_of h = map (λ x. x.relaxed) h.nodes

-- the range of node k
abbrev pub range_of : Net → Held → ℕ → Range
range_of n h k = node_range n (cuts_of n h) k

-- the bound of node k
abbrev pub bound_at : Held → ℕ → ℕ
bound_at h k = node_bound h.tables (roots_of h) k

-- the search that came
abbrev pub searched : Net → Held → Searched
searched n h = record { tables = h.tables; roots = roots_of h; relaxed = relaxed_of h; cuts = cuts_of n h }

-- a node comes where there are two for each split, and a split or the end where there is one more
abbrev pub is_misplaced : ℕ → ℕ → Item → Bool
is_misplaced nodes splits (HeadItem g) = false
is_misplaced nodes splits (TableItem t) = false
is_misplaced nodes splits (NodeItem x) = nat_lt (2 * splits) nodes
is_misplaced nodes splits (SplitItem s) = nat_le nodes (2 * splits)
is_misplaced nodes splits (EndItem v) = nat_le nodes (2 * splits)
