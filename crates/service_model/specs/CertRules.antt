-- The rules on the items of a certificate, by their numbers.
use Rattle.std.specs.Prelude.{◌≡◌, ℕ, ◌+◌, ◌<◌, ◌≤◌, ◌==◌, nat_lt, false, List, length, All, Option, Some, None, is_none, IfSome, MatchBool, ⊤, if◌then◌else◌}
use Rattle.std.specs.List.{list_any}
use Rattle.service_model.specs.declared.cert_rules.TheConstants.{SHAPE, HEAD, AFTER_END, PLACE, NETWORK, TABLE, CHILD, CHILD_ARC, LOCAL, BUDGET, ROOT, FITS, STAGE_TWICE, RELAXED, SPLIT_NODE, SPLIT_LATE, SPLIT_PLAN, SPLIT_ARC, VERDICT, PLAN}
use Rattle.service_model.specs.declared.plan.Plan.{Plan}
use Rattle.service_model.specs.declared.table.Kind.TheVariants.{Root}
use Rattle.service_model.specs.declared.table.Table.{Table}
use Rattle.service_model.specs.declared.cert.Head.{Head}
use Rattle.service_model.specs.declared.cert.Node.{Node}
use Rattle.service_model.specs.declared.cert.Split.{Split}
use Rattle.service_model.specs.declared.cert.Verdict.{Verdict}
use Rattle.service_model.specs.declared.cert.Item.{Item}
use Rattle.service_model.specs.declared.cert.Item.TheVariants.{Head as HeadItem, Table as TableItem, Node as NodeItem, Split as SplitItem, End as EndItem}
use Rattle.service_model.specs.Net.{Net}
use Rattle.service_model.specs.Plans.{HasTimes}
use Rattle.service_model.specs.Tables.{table_at, IsChild, IsSized}
use Rattle.service_model.specs.LocalSums.{Local}
use Rattle.service_model.specs.Nodes.{below_roots, Fits, IsOnce}
use Rattle.service_model.specs.Repairs.{Found}
use Rattle.service_model.specs.Verdicts.{Ends, ending_plan}
use Rattle.service_model.specs.Items.{is_head}
use Rattle.service_model.specs.CertNumbers.{InRange}
use Rattle.service_model.specs.Held.{Held, budget_of, relaxed_of, range_of, searched, is_misplaced}
use Rattle.service_model.specs.Earned.{IsNext, IsOpen, IsRelaxedAt, BreaksArc}

-- the head is about the network
pub record IsHeadOf (n : Net) (h : Head) : Type 0 where
  pub horizon : h.horizon ≡ n.horizon
  pub stages : h.stages ≡ length n.stages

-- the greatest floor of a table: the horizon, and one more where some arc has a transit
abbrev pub most_floor : Net → ℕ
most_floor n = if list_any (λ a. nat_lt 0 a.transit) n.arcs then n.horizon + 1 else n.horizon

-- the table is sized, and its floor is one that a range may have
pub record IsTable (n : Net) (t : Table) : Type 0 where
  pub sized : IsSized n t
  pub floor : t.floor ≤ most_floor n

-- the rules on a table, over the tables before it
abbrev pub TableRule : Net → List Table → Table → ℕ → Type 0
TableRule n tables t rule =
    MatchBool (rule == TABLE) (IsTable n t) (
    MatchBool (rule == CHILD) (All (λ c. c < length tables) t.children) (
    MatchBool (rule == CHILD_ARC) (All (λ c. IsChild (table_at tables c).kind n.arcs (table_at tables c).stage t.stage) t.children) (
    MatchBool (rule == LOCAL) (Local n tables t) ⊤)))

-- the rules on a node
abbrev pub NodeRule : Net → Held → Node → ℕ → Type 0
NodeRule n h x rule =
    MatchBool (rule == BUDGET) (length h.nodes < budget_of h) (
    MatchBool (rule == ROOT) (All (λ k. (k < length h.tables) × ((table_at h.tables k).kind ≡ Root)) x.roots) (
    MatchBool (rule == FITS) (All (λ k. Fits n (range_of n h (length h.nodes)) (table_at h.tables k)) (below_roots h.tables x.roots)) (
    MatchBool (rule == STAGE_TWICE) (IsOnce h.tables (below_roots h.tables x.roots)) (
    MatchBool (rule == RELAXED) (IfSome x.relaxed (HasTimes n)) ⊤))))

-- the rules on a split
abbrev pub SplitRule : Net → Held → Split → ℕ → Type 0
SplitRule n h s rule =
    MatchBool (rule == SPLIT_NODE) (IsNext n h s.node) (
    MatchBool (rule == SPLIT_LATE) (IsOpen n h s.node) (
    MatchBool (rule == SPLIT_PLAN) (IsRelaxedAt n h s.node) (
    MatchBool (rule == SPLIT_ARC) (BreaksArc n h s) ⊤)))

-- the search that came ends with the verdict's outcome and bound
abbrev pub EndsAsTold : Net → Held → Verdict → Type 0
EndsAsTold n h v = (found : Option Plan) × Ends n (searched n h) (budget_of h) v.outcome v.bound found

-- the verdict's plan is that of the ending
abbrev pub HasEndingPlan : Net → Held → Verdict → Type 0
HasEndingPlan n h v = (found : Option Plan) → Found n (relaxed_of h) found → v.plan ≡ ending_plan v.outcome found

-- the rules on a verdict
abbrev pub EndRule : Net → Held → Verdict → ℕ → Type 0
EndRule n h v rule = MatchBool (rule == VERDICT) (EndsAsTold n h v) (MatchBool (rule == PLAN) (HasEndingPlan n h v) ⊤)

-- the rules on an item over the network and the items before it
abbrev pub NetworkRule : Net → Held → Item → ℕ → Type 0
NetworkRule n h (HeadItem g) rule = MatchBool (rule == NETWORK) (IsHeadOf n g) ⊤
NetworkRule n h (TableItem t) rule = TableRule n h.tables t rule
NetworkRule n h (NodeItem x) rule = NodeRule n h x rule
NetworkRule n h (SplitItem s) rule = SplitRule n h s rule
NetworkRule n h (EndItem v) rule = EndRule n h v rule

-- the rule of this number holds of the item, after the items that came; one that does not concern it always holds
abbrev pub Rule : Net → Held → Item → ℕ → Type 0
Rule n h x rule =
    MatchBool (rule == SHAPE) (InRange x) (
    MatchBool (rule == HEAD) (is_head x ≡ is_none h.head) (
    MatchBool (rule == AFTER_END) (h.verdict ≡ None) (
    MatchBool (rule == PLACE) (is_misplaced (length h.nodes) (length h.splits) x ≡ false) (NetworkRule n h x rule))))

-- all rules hold of the item
abbrev pub Keeps : Net → Held → Item → Type 0
Keeps n h x = (rule : ℕ) → Rule n h x rule

-- the first of the rules that fails, by its number, none where all hold
abbrev pub IsFirstOf : (ℕ → Type 0) → Option ℕ → Type 0
IsFirstOf rule None = (k : ℕ) → rule k
IsFirstOf rule (Some r) = (¬ rule r) × ((k : ℕ) → k < r → rule k)
