-- The line of an item of few numbers is short.
use Rattle.std.proofs.Common.{ℕ, suc, ◌+◌, ◌*◌, ◌^◌, ◌<◌, ◌≤◌, List, [], ◌∷◌, length, map, All, IfSome, Option, Some, None, Bool, true, false, decimal, arith, length-append}
use Rattle.std.proofs.lemmas.Fmt.{length-decimal-le}
use Rattle.json.specs.Print.{escape_byte}
use Rattle.serde_json.specs.View.{items_of}
use Rattle.serde_json.specs.Written.{compact_text, items_text, comma_if}
use Rattle.service_model.specs.declared.limits.TheConstants.{INF, MAX_TIME}
use Rattle.service_model.specs.declared.cert_rules.TheConstants.{MAX_NUMBER}
use Rattle.service_model.specs.declared.plan.Plan.{Plan}
use Rattle.service_model.specs.declared.table.Kind.{Kind}
use Rattle.service_model.specs.declared.table.Kind.TheVariants.{Down, Up, Root}
use Rattle.service_model.specs.declared.cert.Outcome.{Outcome}
use Rattle.service_model.specs.declared.cert.Outcome.TheVariants.{Optimal, Infeasible, Spent}
use Rattle.service_model.specs.declared.cert.Item.TheVariants.{Head as HeadItem, Table as TableItem, Node as NodeItem, Split as SplitItem, End as EndItem}
use Rattle.service_model.specs.CertNumbers.{PlanInRange}
use Rattle.bound_cert.specs.declared.limits.TheConstants.{FORMAT}
use Rattle.bound_cert.specs.Lines.{whole, wholes, kind_number, outcome_number, plan_data}
use Rattle.bound_cert.specs.Sizes.{HasFewTimes}
use Rattle.bound_cert.specs.Laws.{ShortLaw}

-- numbers up to most have at most so many digits
record HaveDigits (digits most : ℕ) : Type 0 where
  some_digits : 0 < digits
  fits : most < 10 ^ digits
  small : most < 2 ^ 64

digits_le : (digits most n : ℕ) → HaveDigits digits most → n ≤ most → length (decimal n) ≤ digits
digits_le digits most n h le = length-decimal-le digits n h.some_digits (omega (arith, h.fits)) (omega (arith, h.small))

comma_le : (later : Bool) → length (comma_if later) ≤ 1
comma_le true = omega arith
comma_le false = omega arith

-- each number has its digits and a comma, and one bracket closes the array
items_le : (digits most : ℕ) (later : Bool) (ns : List ℕ) → HaveDigits digits most → All (λ n. n ≤ most) ns
    → length (items_text later (items_of (map whole ns))) ≤ length ns * (digits + 1) + 1
items_le digits most later [] h all = omega arith
items_le digits most later (n ∷ ns) h all =
    let here = digits_le digits most n h (all 0 0 (omega arith)) in
    let rest = items_le digits most true ns h (λ k d lt. all (suc k) d (omega arith)) in
    simp length-append (omega (arith, comma_le later, here, rest))

list_le : (digits most : ℕ) (ns : List ℕ) → HaveDigits digits most → All (λ n. n ≤ most) ns
    → length (compact_text (wholes ns)) ≤ length ns * (digits + 1) + 2
list_le digits most ns h all = let items = items_le digits most false ns h all in omega (arith, items)

four : HaveDigits 4 MAX_TIME
four = record { some_digits = omega arith; fits = omega arith; small = omega arith }

ten : HaveDigits 10 MAX_NUMBER
ten = record { some_digits = omega arith; fits = omega arith; small = omega arith }

nineteen : HaveDigits 19 INF
nineteen = record { some_digits = omega arith; fits = omega arith; small = omega arith }

plan_le : (p : Option Plan) → IfSome p PlanInRange → IfSome p HasFewTimes → length (compact_text (plan_data p)) ≤ 20007
plan_le None r few = omega arith
plan_le (Some p) r few =
    let inbound = list_le 4 MAX_TIME p.inbound four r.inbound in
    let outbound = list_le 4 MAX_TIME p.outbound four r.outbound in
    simp length-append (omega (arith, inbound, outbound, few.inbound, few.outbound))

short_kind : (k : Kind) → kind_number k ≤ MAX_TIME
short_kind Down = omega arith
short_kind Up = omega arith
short_kind Root = omega arith

short_outcome : (o : Outcome) → outcome_number o ≤ MAX_TIME
short_outcome Optimal = omega arith
short_outcome Infeasible = omega arith
short_outcome Spent = omega arith

pub short_law : ShortLaw
unfolding escape_byte
short_law (HeadItem h) r few =
    let format = digits_le 4 MAX_TIME FORMAT four (omega arith) in
    let horizon = digits_le 4 MAX_TIME h.horizon four r.horizon in
    let stages = digits_le 10 MAX_NUMBER h.stages ten r.stages in
    let budget = digits_le 10 MAX_NUMBER h.budget ten (omega (arith, r.budget)) in
    simp length-append (omega (arith, format, horizon, stages, budget))
short_law (TableItem t) r few =
    let stage = digits_le 10 MAX_NUMBER t.stage ten r.stage in
    let kind = digits_le 4 MAX_TIME (kind_number t.kind) four (short_kind t.kind) in
    let least = digits_le 4 MAX_TIME t.least four r.least in
    let most = digits_le 4 MAX_TIME t.most four r.most in
    let floor = digits_le 4 MAX_TIME t.floor four r.floor in
    let children = list_le 10 MAX_NUMBER t.children ten r.children in
    let values = list_le 19 INF t.values nineteen r.values in
    simp length-append (omega (arith, stage, kind, least, most, floor, children, values, few.children, few.values))
short_law (NodeItem x) r few =
    let roots = list_le 10 MAX_NUMBER x.roots ten r.roots in
    let relaxed = plan_le x.relaxed r.relaxed few.relaxed in
    simp length-append (omega (arith, roots, relaxed, few.roots))
short_law (SplitItem s) r few =
    let node = digits_le 10 MAX_NUMBER s.node ten r.node in
    let supplier = digits_le 10 MAX_NUMBER s.supplier ten r.supplier in
    let customer = digits_le 10 MAX_NUMBER s.customer ten r.customer in
    simp length-append (omega (arith, node, supplier, customer))
short_law (EndItem v) r few =
    let outcome = digits_le 4 MAX_TIME (outcome_number v.outcome) four (short_outcome v.outcome) in
    let bound = digits_le 19 INF v.bound nineteen r.bound in
    let plan = plan_le v.plan r.plan few in
    simp length-append (omega (arith, outcome, bound, plan))
