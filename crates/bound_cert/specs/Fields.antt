-- The fields of a line, each of a type and in a range.
use Rattle.std.specs.Prelude.{ℕ, ◌&&◌, ◌==◌, List, [], ◌∷◌, codes, bytes_eq, nat_le, if◌then◌else◌, Option, Some, None, Result, Ok, Err, option_and_then}
use Rattle.serde_json.specs.Data.{Data, null, boolean, number, string, array, object, Items, no_items, item}
use Rattle.serde_json.specs.Find.{as_number, as_u64, as_str, as_array}
use Rattle.service_model.specs.declared.limits.TheConstants.{MAX_TIME}
use Rattle.service_model.specs.declared.plan.Plan.{Plan}
use Rattle.service_model.specs.declared.table.Kind.{Kind}
use Rattle.service_model.specs.declared.table.Kind.TheVariants.{Down, Up, Root}
use Rattle.service_model.specs.declared.cert.Outcome.{Outcome}
use Rattle.service_model.specs.declared.cert.Outcome.TheVariants.{Optimal, Infeasible, Spent}
use Rattle.bound_cert.specs.declared.line.Tag.{Tag}
use Rattle.bound_cert.specs.declared.line.Tag.TheVariants as tags
use Rattle.bound_cert.specs.declared.line.Refusal.{Refusal}
use Rattle.bound_cert.specs.declared.line.Refusal.TheVariants.{Shape}
use Rattle.bound_cert.specs.Refusals.{◌>>=◌, shaped}

-- a whole number from least to most
unfoldable pub whole_in : ℕ → ℕ → Data → Result ℕ Refusal
whole_in least most d = do
  n ← shaped (option_and_then as_u64 (as_number d))
  if nat_le least n && nat_le n most then Ok n else Err Shape

-- the kind with this number
abbrev pub kind_by : ℕ → Kind
kind_by n = if n == 0 then Down else (if n == 1 then Up else Root)

-- the outcome with this number
abbrev pub outcome_by : ℕ → Outcome
outcome_by n = if n == 0 then Optimal else (if n == 1 then Infeasible else Spent)

-- the kind that a JSON value gives
unfoldable pub kind_in : Data → Result Kind Refusal
kind_in d = whole_in 0 2 d >>= λ n. Ok (kind_by n)

-- the outcome that a JSON value gives
unfoldable pub outcome_in : Data → Result Outcome Refusal
outcome_in d = whole_in 0 2 d >>= λ n. Ok (outcome_by n)

-- the kind of line that a word begins
abbrev pub tag_of : List ℕ → Result Tag Refusal
tag_of s =
    if bytes_eq s (codes "gsm-cert") then Ok tags.Head else (
    if bytes_eq s (codes "t") then Ok tags.Table else (
    if bytes_eq s (codes "n") then Ok tags.Node else (
    if bytes_eq s (codes "s") then Ok tags.Split else (
    if bytes_eq s (codes "e") then Ok tags.End else Err Shape))))

-- the kind of line that a JSON value names
unfoldable pub tag_in : Data → Result Tag Refusal
tag_in d = shaped (as_str d) >>= tag_of

-- the first field, read by `read`, and the fields behind it
abbrev pub field : {A : Type 0} → (Data → Result A Refusal) → Items → Result (A × Items) Refusal
field read no_items = Err Shape
field read (item d rest) = read d >>= λ x. Ok (x, rest)

-- no field is left
abbrev pub ends : {A : Type 0} → Items → A → Result A Refusal
ends no_items x = Ok x
ends (item d rest) x = Err Shape

-- each value, as a whole number up to most
unfoldable pub wholes_among : ℕ → Items → Result (List ℕ) Refusal
wholes_among most no_items = Ok []
wholes_among most (item d rest) = do
  n ← whole_in 0 most d
  ns ← wholes_among most rest
  Ok (n ∷ ns)

-- an array of whole numbers up to most
unfoldable pub wholes_in : ℕ → Data → Result (List ℕ) Refusal
wholes_in most d = shaped (as_array d) >>= wholes_among most

-- the plan that these fields give: inbound and outbound times
unfoldable pub plan_among : Items → Result Plan Refusal
plan_among fields = do
  inbound ← field (wholes_in MAX_TIME) fields
  outbound ← field (wholes_in MAX_TIME) inbound.1
  ends outbound.1 (record { inbound = inbound.0; outbound = outbound.0 })

-- a plan's inbound and outbound times, or null
unfoldable pub plan_in : Data → Result (Option Plan) Refusal
plan_in null = Ok None
plan_in (boolean b) = Err Shape
plan_in (number n) = Err Shape
plan_in (string s) = Err Shape
plan_in (array ds) = plan_among ds >>= λ p. Ok (Some p)
plan_in (object ms) = Err Shape
