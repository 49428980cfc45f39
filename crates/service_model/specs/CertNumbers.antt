-- The ranges of a certificate's numbers.
use Rattle.std.specs.Prelude.{◌≤◌, All, IfSome}
use Rattle.service_model.specs.declared.limits.TheConstants.{INF, MAX_TIME}
use Rattle.service_model.specs.declared.cert_rules.TheConstants.{MAX_NUMBER, MAX_BUDGET}
use Rattle.service_model.specs.declared.plan.Plan.{Plan}
use Rattle.service_model.specs.declared.table.Table.{Table}
use Rattle.service_model.specs.declared.cert.Head.{Head}
use Rattle.service_model.specs.declared.cert.Node.{Node}
use Rattle.service_model.specs.declared.cert.Split.{Split}
use Rattle.service_model.specs.declared.cert.Verdict.{Verdict}
use Rattle.service_model.specs.declared.cert.Item.{Item}
use Rattle.service_model.specs.declared.cert.Item.TheVariants.{Head as HeadItem, Table as TableItem, Node as NodeItem, Split as SplitItem, End as EndItem}

-- the plan's times are in their range
pub record PlanInRange (p : Plan) : Type 0 where
  pub inbound : All (λ time. time ≤ MAX_TIME) p.inbound
  pub outbound : All (λ time. time ≤ MAX_TIME) p.outbound

-- a head's numbers are in their ranges
pub record HeadInRange (h : Head) : Type 0 where
  pub horizon : h.horizon ≤ MAX_TIME
  pub stages : h.stages ≤ MAX_NUMBER
  pub some_budget : 1 ≤ h.budget
  pub budget : h.budget ≤ MAX_BUDGET

-- a table's numbers are in their ranges
pub record TableInRange (t : Table) : Type 0 where
  pub stage : t.stage ≤ MAX_NUMBER
  pub least : t.least ≤ MAX_TIME
  pub most : t.most ≤ MAX_TIME
  pub floor : t.floor ≤ MAX_TIME
  pub children : All (λ c. c ≤ MAX_NUMBER) t.children
  pub values : All (λ x. x ≤ INF) t.values

-- a node's roots and times are in their ranges
pub record NodeInRange (x : Node) : Type 0 where
  pub roots : All (λ k. k ≤ MAX_NUMBER) x.roots
  pub relaxed : IfSome x.relaxed PlanInRange

-- a split's numbers are in their ranges
pub record SplitInRange (s : Split) : Type 0 where
  pub node : s.node ≤ MAX_NUMBER
  pub supplier : s.supplier ≤ MAX_NUMBER
  pub customer : s.customer ≤ MAX_NUMBER

-- a verdict's bound and times are in their ranges
pub record VerdictInRange (v : Verdict) : Type 0 where
  pub bound : v.bound ≤ INF
  pub plan : IfSome v.plan PlanInRange

-- the item's numbers are in their ranges; how many tables a node has seen is not looked at
abbrev pub InRange : Item → Type 0
InRange (HeadItem h) = HeadInRange h
InRange (TableItem t) = TableInRange t
InRange (NodeItem x) = NodeInRange x
InRange (SplitItem s) = SplitInRange s
InRange (EndItem v) = VerdictInRange v
