-- One step of a search: a leaf is split.
use Rattle.std.specs.Prelude.{◌≡◌, ℕ, ◌-◌, List, length, Option, Some, None, MatchOption, All}
use Rattle.service_model.specs.declared.plan.Plan.{Plan}
use Rattle.service_model.specs.declared.range.Range.{Range}
use Rattle.service_model.specs.declared.table.Table.{Table}
use Rattle.service_model.specs.declared.cert.Outcome.{Outcome}
use Rattle.service_model.specs.declared.cert.Cert.{Cert}
use Rattle.service_model.specs.Net.{Net, arc_in}
use Rattle.service_model.specs.Plans.{Meets, inbound_at}
use Rattle.service_model.specs.Ranges.{HasIntervals, ended, started}
use Rattle.service_model.specs.Verdicts.{EndsWith, ending_plan}
use Rattle.tree_order.specs.declared.forest.Forest.{Forest}
use Rattle.open_leaves.specs.declared.leaf.Leaf.{Leaf}
use Rattle.range_splits.specs.Breaks.{IsMostBroken}
use Rattle.range_splits.specs.Open.{IsLeastOf, ending_bound}
use Rattle.range_nodes.specs.Nodes.{IsMade}
use Rattle.range_branch.specs.declared.progress.Progress.{Progress}
use Rattle.range_branch.specs.declared.halves.Cutting.{Cutting}
use Rattle.range_branch.specs.declared.halves.Halves.{Halves}
use Rattle.range_branch.specs.Progress.{cert_with, IsProgress}

-- the node is split at the arc that its relaxed plan breaks most
pub record IsCutting (n : Net) (node : ℕ) (plan : Plan) (c : Cutting) : Type 0 where
  pub arc : ℕ
  pub broken : IsMostBroken n plan arc
  pub node_is : c.split.node ≡ node
  pub supplier : c.split.supplier ≡ (arc_in n.arcs arc).supplier
  pub customer : c.split.customer ≡ (arc_in n.arcs arc).customer
  pub last : c.last ≡ inbound_at plan (arc_in n.arcs arc).customer - (arc_in n.arcs arc).transit

-- how a node is split by its relaxed plan, if it has one
abbrev pub CutBy : Net → ℕ → Option Plan → Option Cutting → Type 0
CutBy n node None cutting = cutting ≡ None
CutBy n node (Some plan) cutting = MatchOption cutting (All (Meets plan) n.arcs) (IsCutting n node plan)

-- the halves of a range, each made a node, the left one first
pub record AreHalves (n : Net) (f : Forest) (r : Range) (c : Cutting) (old new : List Table) (count count' : ℕ) (h : Halves) : Type 0 where
  pub left_is : h.left ≡ ended r c.split.supplier c.last
  pub right_is : h.right ≡ started r c.split.supplier c.last
  pub left_intervals : HasIntervals n h.left
  pub right_intervals : HasIntervals n h.right
  pub between : List Table
  pub steps : ℕ
  pub left : IsMade n f h.left old between count steps h.left_made
  pub right : IsMade n f h.right between new steps count' h.right_made

-- the certificate of a search that ends with the outcome and the bound
pub record IsEnd (n : Net) (budget : ℕ) (tables : List Table) (p : Progress) (outcome : Outcome) (bound : ℕ) (c : Cert) : Type 0 where
  pub is : c ≡ cert_with n budget tables p (record { outcome = outcome; bound = bound; plan = ending_plan outcome p.found })

-- the certificate of a search: it ended, and these are its tables
pub record IsSearched (n : Net) (f : Forest) (budget : ℕ) (tables : List Table) (c : Cert) : Type 0 where
  pub progress : Progress
  pub is_progress : IsProgress n f budget tables progress
  pub least : Leaf
  pub is_least : IsLeastOf progress.leaves least
  pub outcome : Outcome
  pub ends : EndsWith outcome n progress.found least.bound (length progress.nodes) budget (ending_bound outcome n progress.found least.bound)
  pub cert : IsEnd n budget tables progress outcome (ending_bound outcome n progress.found least.bound) c
