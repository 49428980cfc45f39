-- The laws over certificates.
use Rattle.std.specs.Prelude.{◌≡◌, ℕ, ◌+◌, ◌≤◌, List, [], ◌∷◌, ◌++◌, length, Option}
use Rattle.service_model.specs.declared.cert_rules.TheConstants.{TABLE, CHILD, CHILD_ARC, LOCAL}
use Rattle.service_model.specs.declared.plan.Plan.{Plan}
use Rattle.service_model.specs.declared.range.Range.{Range}
use Rattle.service_model.specs.declared.table.Table.{Table}
use Rattle.service_model.specs.declared.cert.Verdict.{Verdict}
use Rattle.service_model.specs.Net.{Net}
use Rattle.service_model.specs.Plans.{Feasible, cost_of}
use Rattle.service_model.specs.Networks.{IsNetwork}
use Rattle.service_model.specs.Customers.{HasEnds}
use Rattle.service_model.specs.LocalSums.{Sound}
use Rattle.service_model.specs.Nodes.{IsNode}
use Rattle.service_model.specs.CertRanges.{Cut, AreCuts, AreNodes, IsOnlyLeaf}
use Rattle.service_model.specs.Repairs.{Repair, IsRepair, Found, FoundOf, better}
use Rattle.service_model.specs.Verdicts.{BoundsLeaves, Searched, IsEnding, IsTrueOf}
use Rattle.service_model.specs.CertRules.{TableRule}

-- each feasible plan lies in the range of exactly one leaf
abbrev pub LeafLaw : Type 0
LeafLaw = (n : Net) (cuts : List Cut) (p : Plan) → AreCuts n cuts → Feasible n p → (k : ℕ) × IsOnlyLeaf n cuts p k

-- a number that is above no leaf's bound is above the cost of no feasible plan
abbrev pub LeastBoundLaw : Type 0
LeastBoundLaw = (n : Net) (tables : List Table) (roots : List (List ℕ)) (cuts : List Cut) (b : ℕ) (p : Plan)
    → HasEnds (length n.stages) n.arcs → Sound n tables → AreCuts n cuts → AreNodes n tables roots cuts
    → BoundsLeaves tables roots cuts b → Feasible n p → b ≤ cost_of n p

-- with one node more the plan found is the better one of the plan found before and the node's own
abbrev pub FoundMoreLaw : Type 0
FoundMoreLaw = (n : Net) (relaxed : List (Option Plan)) (next old new : Option Plan) → Found n relaxed old → FoundOf n next new
    → Found n (relaxed ++ next ∷ []) (better n old new)

-- a repair of a plan is one plan
abbrev pub RepairLaw : Type 0
RepairLaw = (n : Net) (kind : Repair) (q a b : Plan) → IsNetwork n → IsRepair kind n q a → IsRepair kind n q b → a ≡ b

-- the plan found is one plan
abbrev pub FoundOneLaw : Type 0
FoundOneLaw = (n : Net) (relaxed : List (Option Plan)) (a b : Option Plan) → IsNetwork n → Found n relaxed a → Found n relaxed b → a ≡ b

-- a table that keeps the rules over the tables before it leaves the tables sound
abbrev pub TableMoreLaw : Type 0
TableMoreLaw = (n : Net) (tables : List Table) (t : Table) → Sound n tables → TableRule n tables t TABLE → TableRule n tables t CHILD
    → TableRule n tables t CHILD_ARC → TableRule n tables t LOCAL → Sound n (tables ++ t ∷ [])

-- later tables leave a node as it is
abbrev pub NodeStaysLaw : Type 0
NodeStaysLaw = (n : Net) (tables more : List Table) (r : Range) (roots : List ℕ) → Sound n tables → IsNode n tables r roots
    → IsNode n (tables ++ more) r roots

-- the ending of a search whose tables are sound, whose splits cut its leaves, and whose nodes fit their ranges is true of the network
abbrev pub TrueLaw : Type 0
TrueLaw = (n : Net) (s : Searched) (budget : ℕ) (v : Verdict) → IsNetwork n → Sound n s.tables → AreCuts n s.cuts
    → AreNodes n s.tables s.roots s.cuts → IsEnding n s budget v → IsTrueOf n v

-- a search has at most one ending
abbrev pub EndingOneLaw : Type 0
EndingOneLaw = (n : Net) (s : Searched) (budget : ℕ) (v w : Verdict) → IsNetwork n → IsEnding n s budget v → IsEnding n s budget w → v ≡ w
