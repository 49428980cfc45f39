-- What a line is read as: one of five arrays, behind its word.
use Rattle.std.specs.Prelude.{ℕ, List, Option, Some, None, Result, Ok, Err, if◌then◌else◌}
use Rattle.std.specs.Str.{is_utf8}
use Rattle.serde_json.specs.Data.{Data, Items}
use Rattle.serde_json.specs.Find.{as_array}
use Rattle.serde_json.specs.Read.{read}
use Rattle.service_model.specs.declared.limits.TheConstants.{INF, MAX_TIME}
use Rattle.service_model.specs.declared.cert_rules.TheConstants.{MAX_NUMBER, MAX_BUDGET}
use Rattle.service_model.specs.declared.cert.Item.TheVariants.{Head as HeadItem, Table as TableItem, Node as NodeItem, Split as SplitItem, End as EndItem}
use Rattle.bound_cert.specs.declared.limits.TheConstants.{FORMAT}
use Rattle.bound_cert.specs.declared.line.Tag.{Tag}
use Rattle.bound_cert.specs.declared.line.Tag.TheVariants as tags
use Rattle.bound_cert.specs.declared.line.Refusal.{Refusal}
use Rattle.bound_cert.specs.declared.line.Refusal.TheVariants.{NotJson}
use Rattle.bound_cert.specs.declared.line.Line.{Line}
use Rattle.bound_cert.specs.declared.line.Limits.{Limits}
use Rattle.bound_cert.specs.Refusals.{◌>>=◌, shaped}
use Rattle.bound_cert.specs.Fields.{whole_in, kind_in, outcome_in, tag_in, field, ends, wholes_in, plan_in}

-- the head that these fields give: version, horizon, stages, budget
unfoldable pub head_among : Items → Result Line Refusal
head_among fields = do
  version ← field (whole_in 0 MAX_NUMBER) fields
  horizon ← field (whole_in 0 MAX_TIME) version.1
  stages ← field (whole_in 0 MAX_NUMBER) horizon.1
  budget ← field (whole_in 1 MAX_BUDGET) stages.1
  ends budget.1 (record { version = version.0; item = HeadItem (record { horizon = horizon.0; stages = stages.0; budget = budget.0 }) })

-- least and greatest time and floor of a table, and the fields behind them
unfoldable pub limits_among : Items → Result (Limits × Items) Refusal
limits_among fields = do
  least ← field (whole_in 0 MAX_TIME) fields
  most ← field (whole_in 0 MAX_TIME) least.1
  floor ← field (whole_in 0 MAX_TIME) most.1
  Ok (record { least = least.0; most = most.0; floor = floor.0 }, floor.1)

-- children and values of a table, with no field behind them
unfoldable pub lists_among : Items → Result (List ℕ × List ℕ) Refusal
lists_among fields = do
  children ← field (wholes_in MAX_NUMBER) fields
  values ← field (wholes_in INF) children.1
  ends values.1 (children.0, values.0)

-- the table that these fields give: stage, kind, limits, children, values
unfoldable pub table_among : Items → Result Line Refusal
table_among fields = do
  stage ← field (whole_in 0 MAX_NUMBER) fields
  kind ← field kind_in stage.1
  limits ← limits_among kind.1
  lists ← lists_among limits.1
  Ok (record { version = FORMAT; item = TableItem (record { stage = stage.0; kind = kind.0; least = limits.0.least; most = limits.0.most; floor = limits.0.floor; children = lists.0; values = lists.1 }) })

-- the node that these fields give: roots and relaxed plan; `seen` tables came before it
unfoldable pub node_among : ℕ → Items → Result Line Refusal
node_among seen fields = do
  roots ← field (wholes_in MAX_NUMBER) fields
  relaxed ← field plan_in roots.1
  ends relaxed.1 (record { version = FORMAT; item = NodeItem (record { seen = seen; roots = roots.0; relaxed = relaxed.0 }) })

-- the split that these fields give: node, supplier, customer
unfoldable pub split_among : Items → Result Line Refusal
split_among fields = do
  node ← field (whole_in 0 MAX_NUMBER) fields
  supplier ← field (whole_in 0 MAX_NUMBER) node.1
  customer ← field (whole_in 0 MAX_NUMBER) supplier.1
  ends customer.1 (record { version = FORMAT; item = SplitItem (record { node = node.0; supplier = supplier.0; customer = customer.0 }) })

-- the verdict that these fields give: outcome, bound, plan
unfoldable pub end_among : Items → Result Line Refusal
end_among fields = do
  outcome ← field outcome_in fields
  bound ← field (whole_in 0 INF) outcome.1
  plan ← field plan_in bound.1
  ends plan.1 (record { version = FORMAT; item = EndItem (record { outcome = outcome.0; bound = bound.0; plan = plan.0 }) })

-- the fields behind the word of a line; `seen` is the number of table lines before it
abbrev pub line_among : ℕ → Tag → Items → Result Line Refusal
line_among seen tags.Head fields = head_among fields
line_among seen tags.Table fields = table_among fields
line_among seen tags.Node fields = node_among seen fields
line_among seen tags.Split fields = split_among fields
line_among seen tags.End fields = end_among fields

-- the line that a JSON value gives; `seen` is the number of table lines before it
unfoldable pub line_in : ℕ → Data → Result Line Refusal
line_in seen d = do
  fields ← shaped (as_array d)
  tag ← field tag_in fields
  line_among seen tag.0 tag.1

-- the JSON value of bytes
unfoldable pub value_from : List ℕ → Result Data Refusal
value_from bytes = if is_utf8 bytes then parsed (read bytes) else Err NotJson
  where
    parsed : Option Data → Result Data Refusal
    parsed None = Err NotJson
    parsed (Some d) = Ok d

-- the item of a line's bytes, its line feed left out
unfoldable pub line_from : ℕ → List ℕ → Result Line Refusal
line_from seen bytes = value_from bytes >>= line_in seen
