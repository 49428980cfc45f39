-- The laws over items of certificates.
use Rattle.std.specs.Prelude.{◌≡◌, ℕ, ◌+◌, ◌<◌, ◌≤◌, List, [], ◌∷◌, ◌++◌, length, map, Some, None, IsSome, IsSomeAnd}
use Rattle.service_model.specs.declared.plan.Plan.{Plan}
use Rattle.service_model.specs.declared.table.Table.{Table}
use Rattle.service_model.specs.declared.cert.Node.{Node}
use Rattle.service_model.specs.declared.cert.Split.{Split}
use Rattle.service_model.specs.declared.cert.Verdict.{Verdict}
use Rattle.service_model.specs.declared.cert.Cert.{Cert}
use Rattle.service_model.specs.declared.cert.Item.{Item}
use Rattle.service_model.specs.declared.cert.Item.TheVariants.{Head as HeadItem, Table as TableItem, Split as SplitItem}
use Rattle.service_model.specs.Net.{Net}
use Rattle.service_model.specs.Plans.{Feasible, cost_of}
use Rattle.service_model.specs.Networks.{IsNetwork}
use Rattle.service_model.specs.Ranges.{IsIn}
use Rattle.service_model.specs.Verdicts.{IsTrueOf}
use Rattle.service_model.specs.Items.{items_of}
use Rattle.service_model.specs.Held.{Held, none_held, held_with, held_after, budget_of, range_of, bound_at}
use Rattle.service_model.specs.Earned.{IsEarned}
use Rattle.service_model.specs.CertRules.{Keeps}
use Rattle.service_model.specs.Certs.{AllKeep, IsAccepted, IsFault}
use Rattle.cert_laws.specs.SoFar.{SoundSoFar}
use Rattle.cert_laws.specs.Grown.{IsWhole, open_items, node_items, grown, TablesKeep}

-- an item on which no rule fails leaves what came sound
abbrev pub ItemMoreLaw : Type 0
ItemMoreLaw = (n : Net) (h : Held) (x : Item) → IsNetwork n → SoundSoFar n h → Keeps n h x → SoundSoFar n (held_with h x)

-- where no rule fails on any item, whatever comes later, no feasible plan of a node's range costs less than the node's bound
abbrev pub BoundLaw : Type 0
BoundLaw = (n : Net) (items : List Item) (k : ℕ) (p : Plan) → IsNetwork n → AllKeep n none_held items → k < length (held_after none_held items).nodes
    → Feasible n p → IsIn n (range_of n (held_after none_held items) k) p → bound_at (held_after none_held items) k ≤ cost_of n p

-- where no rule fails on any item, the verdict is true of the network
abbrev pub CheckLaw : Type 0
CheckLaw = (n : Net) (items : List Item) (v : Verdict) → IsNetwork n → AllKeep n none_held items → (held_after none_held items).verdict ≡ Some v
    → IsTrueOf n v

-- an accepted certificate has a verdict, which is true of the network
abbrev pub AcceptedLaw : Type 0
AcceptedLaw = (n : Net) (items : List Item) → IsNetwork n → IsAccepted n items → IsSomeAnd (held_after none_held items).verdict (IsTrueOf n)

-- where no rule fails on the items of a certificate, its verdict is true of the network
abbrev pub CertLaw : Type 0
CertLaw = (n : Net) (c : Cert) → IsNetwork n → AllKeep n none_held (items_of c) → IsTrueOf n c.verdict

-- each split among items on which no rule fails is earned by the nodes before it
abbrev pub EarnedLaw : Type 0
EarnedLaw = (n : Net) (front rest : List Item) (s : Split) → AllKeep n none_held (front ++ SplitItem s ∷ rest)
    → IsEarned n (held_after none_held front) s

-- items on which no rule fails have no more nodes than their head allows
abbrev pub BudgetLaw : Type 0
BudgetLaw = (n : Net) (items : List Item) → AllKeep n none_held items
    → length (held_after none_held items).nodes ≤ budget_of (held_after none_held items)

-- items have at most one first fault
abbrev pub FaultOneLaw : Type 0
FaultOneLaw = (n : Net) (items : List Item) (line rule line' rule' : ℕ) → IsFault n items line rule → IsFault n items line' rule'
    → (line ≡ line') × (rule ≡ rule')

-- accepted items have no fault
abbrev pub NoFaultLaw : Type 0
NoFaultLaw = (n : Net) (items : List Item) (line rule : ℕ) → IsAccepted n items → ¬ IsFault n items line rule

-- the items of a certificate of one node
abbrev pub FirstLaw : Type 0
FirstLaw = (c : Cert) (x : Node) → c.nodes ≡ x ∷ [] → c.splits ≡ [] → x.seen ≡ length c.tables
    → IsWhole c × (open_items c ≡ HeadItem c.head ∷ node_items c.tables x)

-- with one split more come the split and its two nodes, behind what there was
abbrev pub GrownLaw : Type 0
GrownLaw = (c : Cert) (s : Split) (front back : List Table) (x y : Node) → IsWhole c → x.seen ≡ length c.tables + length front
    → y.seen ≡ length c.tables + length front + length back
    → IsWhole (grown c s front x back y)
    × (open_items (grown c s front x back y) ≡ open_items c ++ (SplitItem s ∷ node_items front x ++ node_items back y))

-- tables that keep their rules one over another keep all rules, and are what came behind
abbrev pub TablesLaw : Type 0
TablesLaw = (n : Net) (h : Held) (more : List Table) → IsSome h.head → h.verdict ≡ None → TablesKeep n h.tables more
    → AllKeep n h (map TableItem more) × (held_after h (map TableItem more) ≡ record h { tables = h.tables ++ more })
