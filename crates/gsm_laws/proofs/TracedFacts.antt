-- A traced plan costs at and below a table at least the value at its times.
use Rattle.std.proofs.Common.{◌≡◌, ℕ, zero, suc, ◌+◌, ◌-◌, ◌<◌, ◌≤◌, List, [], ◌∷◌, length, get_or, take, drop, arith}
use Rattle.std.specs.Prelude.{sum_by}
use Rattle.std.specs.List.{flat_map, AllByRecursion}
use Rattle.std.proofs.lemmas.List.{get_or-take, get_or-drop, length-take, length-drop}
use Rattle.std.proofs.lemmas.List.Sums.{sum_by-cons, sum_by-append}
use Rattle.service_model.specs.declared.plan.Plan.{Plan}
use Rattle.service_model.specs.declared.table.Kind.{Kind}
use Rattle.service_model.specs.declared.table.Kind.TheVariants.{Down, Up, Root}
use Rattle.service_model.specs.declared.table.Table.{Table}
use Rattle.service_model.specs.Net.{Net}
use Rattle.service_model.specs.Plans.{inbound_at, outbound_at}
use Rattle.service_model.specs.Tables.{table_at, width, place, child_transit}
use Rattle.service_model.specs.LocalSums.{child_least, least_of, least_below}
use Rattle.service_model.specs.Nodes.{below_within, Holds, plan_value, IsSoundAt, MeetsChild}
use Rattle.gsm_laws.specs.Traces.{TracedWithin, cost_at}
use Rattle.gsm_laws.specs.Laws.{TracedLaw}
use Rattle.gsm_laws.proofs.ElementFacts.{all_append}
use Rattle.gsm_laws.proofs.BelowFacts.{itself, earlier_from_sound}

-- the least of a list is at most each member
pub least_of_le : (xs : List ℕ) (k : ℕ) → k < length xs → least_of xs ≤ get_or xs k 0
least_of_le [] k within = absurd (omega arith)
least_of_le (x ∷ xs) zero within = omega arith
least_of_le (x ∷ xs) (suc k) within = let rest = least_of_le xs k (omega arith) in omega arith

pub taken_le : (xs : List ℕ) (m k : ℕ) → k < m → k < length xs → least_of (take m xs) ≤ get_or xs k 0
taken_le xs m k low within =
    let le = least_of_le (take m xs) k (rw length-take (omega arith)) in
    rw get_or-take at le

pub dropped_le : (xs : List ℕ) (m k : ℕ) → m ≤ k → k < length xs → least_of (drop m xs) ≤ get_or xs k 0
dropped_le xs m k low within =
    let le = least_of_le (drop m xs) (k - m) (rw length-drop (omega arith)) in
    let back : m + (k - m) ≡ k = omega arith in
    rw (get_or-drop, back) at le

-- the least value of a child that the plan's times allow is at most its value at the plan's times
child_le : (kind : Kind) (n : Net) (c : Table) (j : ℕ) (p : Plan) → MeetsChild kind n.arcs p c.stage j → Holds n p c
    → length c.values ≡ width kind n.horizon c.least c.most c.floor
    → child_least kind (child_transit kind n.arcs c.stage j) c.least c.floor c.values (inbound_at p j) (outbound_at p j)
    ≤ get_or c.values (place kind c.least c.floor (inbound_at p c.stage) (outbound_at p c.stage)) 0
child_le Down n c j p met holds long =
    taken_le c.values _ (outbound_at p c.stage - c.least) (omega (arith, met, holds.not_early)) (omega (arith, holds.not_early, holds.not_late, long))
child_le Up n c j p met holds long =
    dropped_le c.values _ (inbound_at p c.stage - c.floor) (omega (arith, met, holds.not_below)) (omega (arith, holds.not_below, holds.not_above, long))
child_le Root n c j p met holds long = absurd met

-- the law, so many steps deep
abbrev pub LawWithin : Net → List Table → Plan → ℕ → Type 0
LawWithin n tables p steps =
    (i : ℕ) → i < steps → AllByRecursion (IsSoundAt n tables) (below_within steps tables i) → TracedWithin steps n tables p i
    → plan_value p (table_at tables i) ≤ cost_at n p tables (below_within steps tables i)

pub first_holds : (n : Net) (tables : List Table) (p : Plan) (steps i : ℕ) → i < steps → TracedWithin steps n tables p i → Holds n p (table_at tables i)
first_holds n tables p zero i low traced = absurd (omega arith)
first_holds n tables p (suc steps) i low traced = traced.0

children_le : (n : Net) (tables : List Table) (p : Plan) (t : Table) (steps i : ℕ) → LawWithin n tables p steps → i ≤ steps
    → (cs : List ℕ) → AllByRecursion (λ c. c < i) cs → AllByRecursion (IsSoundAt n tables) (flat_map (below_within steps tables) cs)
    → AllByRecursion (λ c. MeetsChild (table_at tables c).kind n.arcs p (table_at tables c).stage t.stage × TracedWithin steps n tables p c) cs
    → sum_by (λ c. least_below n t (inbound_at p t.stage) (outbound_at p t.stage) (table_at tables c)) cs
    ≤ cost_at n p tables (flat_map (below_within steps tables) cs)
children_le n tables p t steps i law low [] earlier sound traced = omega arith
children_le n tables p t steps i law low (c ∷ cs) earlier sound traced =
    let parts = all_append (IsSoundAt n tables) (below_within steps tables c) (flat_map (below_within steps tables) cs) sound in
    let less : c < steps = omega (arith, earlier.0) in
    let here = itself (IsSoundAt n tables) tables steps c less parts.0 in
    let first = child_le (table_at tables c).kind n (table_at tables c) t.stage p traced.0.0 (first_holds n tables p steps c less traced.0.1) here.shaped.sized.values in
    let value = law c less parts.0 traced.0.1 in
    let rest = children_le n tables p t steps i law low cs earlier.1 parts.1 traced.1 in
    rw (sum_by-cons, sum_by-append) (omega (arith, first, value, rest))

pub law_within : (n : Net) (tables : List Table) (p : Plan) (steps : ℕ) → LawWithin n tables p steps
law_within n tables p zero i low sound traced = absurd (omega arith)
law_within n tables p (suc steps) i low sound traced =
    let rest = children_le n tables p (table_at tables i) steps i (law_within n tables p steps) (omega arith)
    (table_at tables i).children (earlier_from_sound n tables i sound.0) sound.1 traced.1 in
    rw sum_by-cons (omega (arith, sound.0.lower _ _ traced.0, rest))

pub traced_law : TracedLaw
traced_law n tables p i sound traced = law_within n tables p (suc i) i (omega arith) sound traced
