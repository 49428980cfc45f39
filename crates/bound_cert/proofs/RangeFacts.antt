-- What is read of a line has its numbers in their ranges.
use Rattle.std.proofs.Common.{◌≡◌, ℕ, zero, suc, ◌≤◌, ◌&&◌, nat_le, Bool, true, false, if◌then◌else◌, List, ◌∷◌, All, IfSome, Option, Result, Ok, Err, IfOk, refl, arith, option_and_then}
use Rattle.std.specs.Prelude.{⊤}
use Rattle.serde_json.specs.Data.{Data, null, boolean, number, string, array, object, Items, no_items, item}
use Rattle.serde_json.specs.Find.{as_number, as_u64, as_array}
use Rattle.service_model.specs.declared.limits.TheConstants.{INF, MAX_TIME}
use Rattle.service_model.specs.declared.cert_rules.TheConstants.{MAX_NUMBER, MAX_BUDGET}
use Rattle.service_model.specs.declared.plan.Plan.{Plan}
use Rattle.service_model.specs.CertNumbers.{PlanInRange, InRange}
use Rattle.bound_cert.specs.declared.line.Tag.{Tag}
use Rattle.bound_cert.specs.declared.line.Tag.TheVariants as tags
use Rattle.bound_cert.specs.declared.line.Refusal.{Refusal}
use Rattle.bound_cert.specs.declared.line.Refusal.TheVariants.{Shape}
use Rattle.bound_cert.specs.declared.line.Line.{Line}
use Rattle.bound_cert.specs.declared.line.Limits.{Limits}
use Rattle.bound_cert.specs.Refusals.{◌>>=◌, shaped}
use Rattle.bound_cert.specs.Fields.{whole_in, field, ends, wholes_among, wholes_in, plan_among, plan_in, kind_in, outcome_in, tag_in}
use Rattle.bound_cert.specs.Reading.{head_among, limits_among, lists_among, table_among, node_among, split_among, end_among, line_among, line_in, value_from, line_from}
use Rattle.bound_cert.specs.Order.{HasSeen}

-- what holds of a value after each next step holds of the steps together
then_ok : {A B : Type 0} (r : Result A Refusal) (f : A → Result B Refusal) (P : A → Type 0) (Q : B → Type 0)
    → IfOk r P → ((x : A) → P x → IfOk (f x) Q) → IfOk (r >>= f) Q
then_ok (Ok x) f P Q h next = next x h
then_ok (Err why) f P Q h next = tt

-- a step of which nothing is to be known
any_ok : {A : Type 0} (r : Result A Refusal) → IfOk r (λ x. ⊤)
any_ok (Ok x) = tt
any_ok (Err why) = tt

field_ok : {A : Type 0} (read : Data → Result A Refusal) (P : A → Type 0) → ((d : Data) → IfOk (read d) P) → (fields : Items)
    → IfOk (field read fields) (λ x. P x.0)
field_ok read P h no_items = tt
field_ok read P h (item d rest) = then_ok (read d) _ P (λ x. P x.0) (h d) (λ x p. p)

ends_ok : {A : Type 0} (P : A → Type 0) (fields : Items) (x : A) → P x → IfOk (ends fields x) P
ends_ok P no_items x p = p
ends_ok P (item d rest) x p = tt

within_ok : (least most n : ℕ) (low high : Bool) → nat_le least n ≡ low → nat_le n most ≡ high
    → IfOk {E = Refusal} (if low && high then Ok n else Err Shape) (λ x. (least ≤ x) × (x ≤ most))
within_ok least most n true true low high = (grind arith, grind arith)
within_ok least most n true false low high = tt
within_ok least most n false high low' high' = tt

whole_ok : (least most : ℕ) (d : Data) → IfOk (whole_in least most d) (λ x. (least ≤ x) × (x ≤ most))
unfolding whole_in
whole_ok least most d =
    then_ok (shaped (option_and_then as_u64 (as_number d))) _ (λ n. ⊤) (λ x. (least ≤ x) × (x ≤ most)) (any_ok _)
    (λ n any. within_ok least most n (nat_le least n) (nat_le n most) refl refl)

number_ok : (least most : ℕ) (fields : Items) → IfOk (field (whole_in least most) fields) (λ x. (least ≤ x.0) × (x.0 ≤ most))
number_ok least most fields = field_ok (whole_in least most) (λ x. (least ≤ x) × (x ≤ most)) (whole_ok least most) fields

all_front : (most n : ℕ) (ns : List ℕ) → n ≤ most → All (λ x. x ≤ most) ns → All (λ x. x ≤ most) (n ∷ ns)
all_front most n ns here later zero d h = here
all_front most n ns here later (suc k) d h = later k d (omega arith)

among_ok : (most : ℕ) (ds : Items) → IfOk (wholes_among most ds) (All (λ x. x ≤ most))
unfolding wholes_among
among_ok most no_items = λ k d h. absurd (omega arith)
among_ok most (item d rest) =
    let later = among_ok most rest in
    then_ok (whole_in 0 most d) _ (λ x. (0 ≤ x) × (x ≤ most)) (All (λ x. x ≤ most)) (whole_ok 0 most d)
    (λ n h. then_ok (wholes_among most rest) _ (All (λ x. x ≤ most)) (All (λ x. x ≤ most)) later (λ ns hs. all_front most n ns h.1 hs))

list_ok : (most : ℕ) (d : Data) → IfOk (wholes_in most d) (All (λ x. x ≤ most))
unfolding wholes_in
list_ok most d = then_ok (shaped (as_array d)) _ (λ ds. ⊤) (All (λ x. x ≤ most)) (any_ok _) (λ ds any. among_ok most ds)

numbers_ok : (most : ℕ) (fields : Items) → IfOk (field (wholes_in most) fields) (λ x. All (λ n. n ≤ most) x.0)
numbers_ok most fields = field_ok (wholes_in most) (All (λ n. n ≤ most)) (list_ok most) fields

two_lists_ok : (fields : Items) → IfOk (plan_among fields) PlanInRange
unfolding plan_among
two_lists_ok fields =
    then_ok (field (wholes_in MAX_TIME) fields) _ (λ x. All (λ n. n ≤ MAX_TIME) x.0) PlanInRange (numbers_ok MAX_TIME fields)
    (λ inbound h.
    then_ok (field (wholes_in MAX_TIME) inbound.1) _ (λ x. All (λ n. n ≤ MAX_TIME) x.0) PlanInRange (numbers_ok MAX_TIME inbound.1)
    (λ outbound k. ends_ok PlanInRange outbound.1 _ (record { inbound = h; outbound = k })))

abbrev MaybeInRange : Option Plan → Type 0
MaybeInRange p = IfSome p PlanInRange

maybe_ok : (d : Data) → IfOk (plan_in d) MaybeInRange
unfolding plan_in
maybe_ok null = tt
maybe_ok (boolean b) = tt
maybe_ok (number n) = tt
maybe_ok (string s) = tt
maybe_ok (array ds) = then_ok (plan_among ds) _ PlanInRange MaybeInRange (two_lists_ok ds) (λ p h. h)
maybe_ok (object ms) = tt

plan_ok : (fields : Items) → IfOk (field plan_in fields) (λ x. MaybeInRange x.0)
plan_ok fields = field_ok plan_in MaybeInRange maybe_ok fields

-- the item of a line is in range, and has seen the tables before it
abbrev pub IsRead : ℕ → Line → Type 0
IsRead seen line = InRange line.item × HasSeen seen line.item

head_ok : (seen : ℕ) (fields : Items) → IfOk (head_among fields) (IsRead seen)
unfolding head_among
head_ok seen fields =
    then_ok (field (whole_in 0 MAX_NUMBER) fields) _ (λ x. ⊤) (IsRead seen) (any_ok _) (λ version any.
    then_ok (field (whole_in 0 MAX_TIME) version.1) _ (λ x. (0 ≤ x.0) × (x.0 ≤ MAX_TIME)) (IsRead seen) (number_ok 0 MAX_TIME version.1) (λ horizon h.
    then_ok (field (whole_in 0 MAX_NUMBER) horizon.1) _ (λ x. (0 ≤ x.0) × (x.0 ≤ MAX_NUMBER)) (IsRead seen) (number_ok 0 MAX_NUMBER horizon.1) (λ stages s.
    then_ok (field (whole_in 1 MAX_BUDGET) stages.1) _ (λ x. (1 ≤ x.0) × (x.0 ≤ MAX_BUDGET)) (IsRead seen) (number_ok 1 MAX_BUDGET stages.1) (λ budget b.
    ends_ok (IsRead seen) budget.1 _ (record { horizon = h.1; stages = s.1; some_budget = b.0; budget = b.1 }, tt)))))

abbrev LimitsInRange : Limits → Type 0
LimitsInRange l = (l.least ≤ MAX_TIME) × (l.most ≤ MAX_TIME) × (l.floor ≤ MAX_TIME)

limits_ok : (fields : Items) → IfOk (limits_among fields) (λ x. LimitsInRange x.0)
unfolding limits_among
limits_ok fields =
    then_ok (field (whole_in 0 MAX_TIME) fields) _ (λ x. (0 ≤ x.0) × (x.0 ≤ MAX_TIME)) (λ x. LimitsInRange x.0) (number_ok 0 MAX_TIME fields) (λ least l.
    then_ok (field (whole_in 0 MAX_TIME) least.1) _ (λ x. (0 ≤ x.0) × (x.0 ≤ MAX_TIME)) (λ x. LimitsInRange x.0) (number_ok 0 MAX_TIME least.1) (λ most m.
    then_ok (field (whole_in 0 MAX_TIME) most.1) _ (λ x. (0 ≤ x.0) × (x.0 ≤ MAX_TIME)) (λ x. LimitsInRange x.0) (number_ok 0 MAX_TIME most.1) (λ floor f.
    (l.1, m.1, f.1))))

abbrev ListsInRange : List ℕ × List ℕ → Type 0
ListsInRange x = All (λ n. n ≤ MAX_NUMBER) x.0 × All (λ n. n ≤ INF) x.1

lists_ok : (fields : Items) → IfOk (lists_among fields) ListsInRange
unfolding lists_among
lists_ok fields =
    then_ok (field (wholes_in MAX_NUMBER) fields) _ (λ x. All (λ n. n ≤ MAX_NUMBER) x.0) ListsInRange (numbers_ok MAX_NUMBER fields) (λ children c.
    then_ok (field (wholes_in INF) children.1) _ (λ x. All (λ n. n ≤ INF) x.0) ListsInRange (numbers_ok INF children.1) (λ values v.
    ends_ok ListsInRange values.1 _ (c, v)))

table_ok : (seen : ℕ) (fields : Items) → IfOk (table_among fields) (IsRead seen)
unfolding table_among
table_ok seen fields =
    then_ok (field (whole_in 0 MAX_NUMBER) fields) _ (λ x. (0 ≤ x.0) × (x.0 ≤ MAX_NUMBER)) (IsRead seen) (number_ok 0 MAX_NUMBER fields) (λ stage s.
    then_ok (field kind_in stage.1) _ (λ x. ⊤) (IsRead seen) (any_ok _) (λ kind any.
    then_ok (limits_among kind.1) _ (λ x. LimitsInRange x.0) (IsRead seen) (limits_ok kind.1) (λ limits l.
    then_ok (lists_among limits.1) _ ListsInRange (IsRead seen) (lists_ok limits.1) (λ lists x.
    (record { stage = s.1; least = l.0; most = l.1; floor = l.2; children = x.0; values = x.1 }, tt)))))

node_ok : (seen : ℕ) (fields : Items) → IfOk (node_among seen fields) (IsRead seen)
unfolding node_among
node_ok seen fields =
    then_ok (field (wholes_in MAX_NUMBER) fields) _ (λ x. All (λ n. n ≤ MAX_NUMBER) x.0) (IsRead seen) (numbers_ok MAX_NUMBER fields) (λ roots r.
    then_ok (field plan_in roots.1) _ (λ x. MaybeInRange x.0) (IsRead seen) (plan_ok roots.1) (λ relaxed p.
    ends_ok (IsRead seen) relaxed.1 _ (record { roots = r; relaxed = p }, refl)))

split_ok : (seen : ℕ) (fields : Items) → IfOk (split_among fields) (IsRead seen)
unfolding split_among
split_ok seen fields =
    then_ok (field (whole_in 0 MAX_NUMBER) fields) _ (λ x. (0 ≤ x.0) × (x.0 ≤ MAX_NUMBER)) (IsRead seen) (number_ok 0 MAX_NUMBER fields) (λ node n.
    then_ok (field (whole_in 0 MAX_NUMBER) node.1) _ (λ x. (0 ≤ x.0) × (x.0 ≤ MAX_NUMBER)) (IsRead seen) (number_ok 0 MAX_NUMBER node.1) (λ supplier s.
    then_ok (field (whole_in 0 MAX_NUMBER) supplier.1) _ (λ x. (0 ≤ x.0) × (x.0 ≤ MAX_NUMBER)) (IsRead seen) (number_ok 0 MAX_NUMBER supplier.1) (λ customer c.
    ends_ok (IsRead seen) customer.1 _ (record { node = n.1; supplier = s.1; customer = c.1 }, tt))))

end_ok : (seen : ℕ) (fields : Items) → IfOk (end_among fields) (IsRead seen)
unfolding end_among
end_ok seen fields =
    then_ok (field outcome_in fields) _ (λ x. ⊤) (IsRead seen) (any_ok _) (λ outcome any.
    then_ok (field (whole_in 0 INF) outcome.1) _ (λ x. (0 ≤ x.0) × (x.0 ≤ INF)) (IsRead seen) (number_ok 0 INF outcome.1) (λ bound b.
    then_ok (field plan_in bound.1) _ (λ x. MaybeInRange x.0) (IsRead seen) (plan_ok bound.1) (λ plan p.
    ends_ok (IsRead seen) plan.1 _ (record { bound = b.1; plan = p }, tt))))

by_tag_ok : (seen : ℕ) (tag : Tag) (fields : Items) → IfOk (line_among seen tag fields) (IsRead seen)
by_tag_ok seen tags.Head fields = head_ok seen fields
by_tag_ok seen tags.Table fields = table_ok seen fields
by_tag_ok seen tags.Node fields = node_ok seen fields
by_tag_ok seen tags.Split fields = split_ok seen fields
by_tag_ok seen tags.End fields = end_ok seen fields

data_ok : (seen : ℕ) (d : Data) → IfOk (line_in seen d) (IsRead seen)
unfolding line_in
data_ok seen d =
    then_ok (shaped (as_array d)) _ (λ x. ⊤) (IsRead seen) (any_ok _) (λ fields any.
    then_ok (field tag_in fields) _ (λ x. ⊤) (IsRead seen) (any_ok _) (λ tag any.
    by_tag_ok seen tag.0 tag.1))

pub line_ok : (seen : ℕ) (bytes : List ℕ) → IfOk (line_from seen bytes) (IsRead seen)
unfolding line_from
line_ok seen bytes = then_ok (value_from bytes) _ (λ d. ⊤) (IsRead seen) (any_ok _) (λ d any. data_ok seen d)
