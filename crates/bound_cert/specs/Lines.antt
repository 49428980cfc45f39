-- The line of an item: the compact text of its JSON array, and a line feed.
use Rattle.std.specs.Prelude.{ℕ, List, [], ◌∷◌, ◌++◌, map, codes, Option, Some, None}
use Rattle.serde_json.specs.Data.{Data, null, number, unsigned, string, array}
use Rattle.serde_json.specs.View.{items_of}
use Rattle.serde_json.specs.Written.{compact_text}
use Rattle.service_model.specs.declared.plan.Plan.{Plan}
use Rattle.service_model.specs.declared.table.Kind.{Kind}
use Rattle.service_model.specs.declared.table.Kind.TheVariants.{Down, Up, Root}
use Rattle.service_model.specs.declared.cert.Outcome.{Outcome}
use Rattle.service_model.specs.declared.cert.Outcome.TheVariants.{Optimal, Infeasible, Spent}
use Rattle.service_model.specs.declared.cert.Item.{Item}
use Rattle.service_model.specs.declared.cert.Item.TheVariants.{Head as HeadItem, Table as TableItem, Node as NodeItem, Split as SplitItem, End as EndItem}
use Rattle.bound_cert.specs.declared.limits.TheConstants.{FORMAT}

-- the byte that ends a line
abbrev pub line_feed : ℕ
line_feed = 10

-- an array of these values
abbrev pub row : List Data → Data
row ds = array (items_of ds)

-- a string of these bytes
abbrev pub word : List ℕ → Data
word s = string s

-- a whole number
abbrev pub whole : ℕ → Data
whole n = number (unsigned n)

-- an array of these numbers
abbrev pub wholes : List ℕ → Data
wholes ns = row (map whole ns)

-- the number that stands for a kind in a line
abbrev pub kind_number : Kind → ℕ
kind_number Down = 0
kind_number Up = 1
kind_number Root = 2

-- the number that stands for an outcome in a line
abbrev pub outcome_number : Outcome → ℕ
outcome_number Optimal = 0
outcome_number Infeasible = 1
outcome_number Spent = 2

-- a plan's inbound and outbound times, null where there is none
abbrev pub plan_data : Option Plan → Data
plan_data None = null
plan_data (Some p) = row (wholes p.inbound ∷ wholes p.outbound ∷ [])

-- an item's array: its word, and its fields in their order
abbrev pub data_of : Item → Data
data_of (HeadItem h) = row (word (codes "gsm-cert") ∷ whole FORMAT ∷ whole h.horizon ∷ whole h.stages ∷ whole h.budget ∷ [])
data_of (TableItem t) =
    row (word (codes "t") ∷ whole t.stage ∷ whole (kind_number t.kind) ∷ whole t.least ∷ whole t.most ∷ whole t.floor
    ∷ wholes t.children ∷ wholes t.values ∷ [])
data_of (NodeItem x) = row (word (codes "n") ∷ wholes x.roots ∷ plan_data x.relaxed ∷ [])
data_of (SplitItem s) = row (word (codes "s") ∷ whole s.node ∷ whole s.supplier ∷ whole s.customer ∷ [])
data_of (EndItem v) = row (word (codes "e") ∷ whole (outcome_number v.outcome) ∷ whole v.bound ∷ plan_data v.plan ∷ [])

-- the line without its line feed
abbrev pub text_of : Item → List ℕ
text_of item = compact_text (data_of item)

-- the line of an item
abbrev pub line_of : Item → List ℕ
line_of item = text_of item ++ line_feed ∷ []
