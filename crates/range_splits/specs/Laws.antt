-- The laws of splits.
use Rattle.std.specs.Prelude.{◌≡◌, ◌↔◌, ℕ, ◌+◌, ◌<◌, List, [], ◌∷◌, ◌++◌, length, Option, Some}
use Rattle.service_model.specs.declared.plan.Plan.{Plan}
use Rattle.service_model.specs.declared.table.Table.{Table}
use Rattle.service_model.specs.declared.cert.Split.{Split}
use Rattle.service_model.specs.declared.cert.Verdict.{Verdict}
use Rattle.service_model.specs.Net.{Net, arc_in}
use Rattle.service_model.specs.Plans.{Feasible, cost_of}
use Rattle.service_model.specs.Networks.{IsNetwork}
use Rattle.service_model.specs.Ranges.{HoldsTime}
use Rattle.service_model.specs.CertRanges.{Cut, IsCut, AreCuts, IsLeaf}
use Rattle.service_model.specs.CertNumbers.{VerdictInRange}
use Rattle.service_model.specs.Repairs.{Found}
use Rattle.service_model.specs.Verdicts.{IsNextLeaf, IsLeastBound, EndsWith, ending_plan}
use Rattle.service_model.specs.Held.{Held, node_at, relaxed_at, cut_by, cuts_of, range_of, roots_of, relaxed_of, bound_at, budget_of}
use Rattle.service_model.specs.Earned.{IsNext, IsOpen, IsRelaxedAt, BreaksArc}
use Rattle.service_model.specs.CertRules.{SplitRule, EndRule}
use Rattle.open_leaves.specs.declared.leaf.Leaf.{Leaf}
use Rattle.range_splits.specs.Breaks.{IsMostBroken}
use Rattle.range_splits.specs.Open.{AreLeaves, IsLeastOf, IsOldOrHalf}

-- the rules on a split hold where it names the next leaf, which is open, has a relaxed plan, and breaks the split's arc
abbrev pub SplitLaw : Type 0
SplitLaw = (n : Net) (h : Held) (s : Split) → IsNext n h s.node → IsOpen n h s.node → IsRelaxedAt n h s.node → BreaksArc n h s
    → (rule : ℕ) → SplitRule n h s rule

-- which leaves there are where one more is cut
abbrev pub LeavesLaw : Type 0
LeavesLaw = (n : Net) (cuts : List Cut) (c : Cut) (k : ℕ) → AreCuts n cuts → IsCut n cuts c
    → IsLeaf (cuts ++ c ∷ []) k ↔ IsOldOrHalf cuts c k

-- the first of the leaves is the one that is split next, and has the least bound
abbrev pub NextLaw : Type 0
NextLaw = (tables : List Table) (roots : List (List ℕ)) (cuts : List Cut) (leaves : List Leaf) (leaf : Leaf) → AreLeaves tables roots cuts leaves
    → IsLeastOf leaves leaf → IsNextLeaf tables roots cuts leaf.node × IsLeastBound tables roots cuts leaf.bound

-- the relaxed plan of an open node is not feasible
abbrev pub OpenLaw : Type 0
OpenLaw = (n : Net) (h : Held) (k : ℕ) (found : Option Plan) (p : Plan) → Found n (relaxed_of h) found → IsOpen n h k → k < length h.nodes
    → (node_at h.nodes k).relaxed ≡ Some p → cost_of n p ≡ bound_at h k → ¬ Feasible n p

-- the arc that a node's relaxed plan breaks most is one that it breaks
abbrev pub BreakLaw : Type 0
BreakLaw = (n : Net) (h : Held) (s : Split) (a : ℕ) → IsNetwork n → IsMostBroken n (relaxed_at h.nodes s.node) a
    → s.supplier ≡ (arc_in n.arcs a).supplier → s.customer ≡ (arc_in n.arcs a).customer → BreaksArc n h s

-- the ending of a search keeps the rules on verdicts
abbrev pub EndLaw : Type 0
EndLaw = (n : Net) (h : Held) (found : Option Plan) (least : ℕ) (v : Verdict) → IsNetwork n → Found n (relaxed_of h) found
    → IsLeastBound h.tables (roots_of h) (cuts_of n h) least → EndsWith v.outcome n found least (length h.nodes) (budget_of h) v.bound
    → v.plan ≡ ending_plan v.outcome found → VerdictInRange v × ((rule : ℕ) → EndRule n h v rule)

-- an interval that is cut holds the time at which it is cut, and the next
abbrev pub CutLaw : Type 0
CutLaw = (n : Net) (h : Held) (s : Split) → IsNetwork n → AreCuts n (cuts_of n h) → IsNext n h s.node → IsRelaxedAt n h s.node → BreaksArc n h s
    → IsCut n (cuts_of n h) (cut_by n h.nodes s)
    × HoldsTime (range_of n h s.node) s.supplier (cut_by n h.nodes s).last
    × HoldsTime (range_of n h s.node) s.supplier ((cut_by n h.nodes s).last + 1)
