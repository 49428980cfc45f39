-- A value of a tight table is what some plan costs at and below the table.
use Rattle.std.proofs.Common.{◌≡◌, ◌≢◌, ℕ, zero, suc, ◌+◌, ◌-◌, ◌<◌, ◌≤◌, List, [], ◌∷◌, length, get_or, take, drop, refl, sym, ap, ◌∙◌, ⊎_elim, arith}
use Rattle.std.specs.Prelude.{sum_by, slice_set}
use Rattle.std.specs.List.{flat_map, AllByRecursion}
use Rattle.std.proofs.lemmas.Bool.{cases_lt}
use Rattle.std.proofs.lemmas.List.{length-set, get_or-set_same, get_or-set_other, get_or-take, get_or-drop, length-take, length-drop}
use Rattle.std.proofs.lemmas.List.Sums.{sum_by-cons, sum_by-append}
use Rattle.service_model.specs.declared.limits.TheConstants.{INF}
use Rattle.service_model.specs.declared.plan.Plan.{Plan}
use Rattle.service_model.specs.declared.table.Kind.{Kind}
use Rattle.service_model.specs.declared.table.Kind.TheVariants.{Down, Up, Root}
use Rattle.service_model.specs.declared.table.Table.{Table}
use Rattle.service_model.specs.Net.{Net, stage_at}
use Rattle.service_model.specs.Plans.{HasTimes, inbound_at, outbound_at, stage_cost, charge}
use Rattle.service_model.specs.Tables.{table_at, transit_in, place, place_of, child_transit}
use Rattle.service_model.specs.LocalSums.{child_least, least_below, least_of, ComesFrom}
use Rattle.service_model.specs.Nodes.{below, below_within, Holds, IsTightAt, MeetsChild}
use Rattle.gsm_laws.specs.Traces.{IsAbsent, SameAt, SameOutside, TracedWithin, cost_at}
use Rattle.gsm_laws.specs.Laws.{TraceLaw}
use Rattle.gsm_laws.proofs.ElementFacts.{all_append, each}
use Rattle.gsm_laws.proofs.BelowFacts.{itself, earlier_from_sound, sound_from_tight}
use Rattle.gsm_laws.proofs.TracedFacts.{first_holds}
use Rattle.gsm_laws.proofs.AgreeFacts.{Apart, apart_append, apart_from_once, same_sum, same_meets, same_traced}

-- a least that is below INF is a member
pub least_reached : (xs : List ℕ) → least_of xs < INF → (k : ℕ) × (k < length xs) × (get_or xs k 0 ≡ least_of xs)
least_reached [] low = absurd (omega arith)
least_reached (x ∷ xs) low = ⊎_elim
    (λ less. (0, omega arith, omega arith))
    (λ more. let rest = least_reached xs (omega arith) in (suc rest.0, omega (arith, rest.1), omega (arith, rest.2)))
    (cases_lt x (least_of xs))

-- a place of the child c that reaches its least value; a plan that stands there meets the arc to the parent, of stage j
abbrev pub Choice : Kind → Net → Table → ℕ → ℕ → ℕ → Type 0
Choice kind n c j a b =
    (y : ℕ) × (y < length c.values) × (get_or c.values y 0 ≡ child_least kind (child_transit kind n.arcs c.stage j) c.least c.floor c.values a b)
    × ((q : Plan) → Holds n q c → inbound_at q j ≡ a → outbound_at q j ≡ b
    → place kind c.least c.floor (inbound_at q c.stage) (outbound_at q c.stage) ≡ y → MeetsChild kind n.arcs q c.stage j)

pub child_choice : (kind : Kind) (n : Net) (c : Table) (j a b : ℕ)
    → child_least kind (child_transit kind n.arcs c.stage j) c.least c.floor c.values a b < INF → Choice kind n c j a b
child_choice Down n c j a b low =
    let end = a + 1 - (c.least + transit_in n.arcs c.stage j) in
    let found = least_reached (take end c.values) low in
    let inside : (found.0 < end) × (found.0 < length c.values) = let e = rw length-take at found.1 in (omega (arith, e), omega (arith, e)) in (
      found.0,
      inside.1,
      sym (get_or-take end c.values found.0 0 inside.0) ∙ found.2,
      λ q holds in' out' stands. omega (arith, holds.not_early, in', stands, inside.0),
    )
child_choice Up n c j a b low =
    let start = b + transit_in n.arcs j c.stage - c.floor in
    let found = least_reached (drop start c.values) low in
    let inside : start + found.0 < length c.values = let e = rw length-drop at found.1 in omega (arith, e) in (
      start + found.0,
      inside,
      sym (get_or-drop start c.values found.0 0) ∙ found.2,
      λ q holds in' out' stands. omega (arith, holds.not_below, out', stands),
    )
child_choice Root n c j a b low = absurd (omega arith)

-- the plan with other times at stage j
abbrev pub with_times : Plan → ℕ → ℕ → ℕ → Plan
with_times p j a b = record { inbound = slice_set p.inbound j a; outbound = slice_set p.outbound j b }

pub with_has : (n : Net) (p : Plan) (j a b : ℕ) → HasTimes n p → HasTimes n (with_times p j a b)
with_has n p j a b times = record { inbound = length-set p.inbound j a ∙ times.inbound; outbound = length-set p.outbound j b ∙ times.outbound }

pub with_other : (p : Plan) (j a b k : ℕ) → k ≢ j → SameAt p (with_times p j a b) k
with_other p j a b k other = (get_or-set_other p.inbound j k a 0 other, get_or-set_other p.outbound j k b 0 other)

-- the plan q is p but at and below table i, where it is traced, stands at the value at x and costs just that
pub record Step (n : Net) (tables : List Table) (steps i x : ℕ) (p q : Plan) : Type 0 where
  pub times : HasTimes n q
  pub same : SameOutside tables (below_within steps tables i) p q
  pub traced : TracedWithin steps n tables q i
  pub stands : place_of (table_at tables i) (inbound_at q (table_at tables i).stage) (outbound_at q (table_at tables i).stage) ≡ x
  pub cost : cost_at n q tables (below_within steps tables i) ≡ get_or (table_at tables i).values x 0

abbrev pub TraceWithin : Net → List Table → ℕ → Type 0
TraceWithin n tables steps =
    (i x : ℕ) (p : Plan) → i < steps → AllByRecursion (IsTightAt n tables) (below_within steps tables i) → Apart tables (below_within steps tables i)
    → x < length (table_at tables i).values → get_or (table_at tables i).values x 0 < INF → HasTimes n p → (q : Plan) × Step n tables steps i x p q

-- the plan q is p but at and below these children of t, which it traces at their least cost
record Children (n : Net) (tables : List Table) (t : Table) (steps a b : ℕ) (cs : List ℕ) (p q : Plan) : Type 0 where
  times : HasTimes n q
  same : SameOutside tables (flat_map (below_within steps tables) cs) p q
  traced : AllByRecursion (λ c. MeetsChild (table_at tables c).kind n.arcs q (table_at tables c).stage t.stage × TracedWithin steps n tables q c) cs
  cost : cost_at n q tables (flat_map (below_within steps tables) cs) ≡ sum_by (λ c. least_below n t a b (table_at tables c)) cs

trace_children : (n : Net) (tables : List Table) (t : Table) (steps i a b : ℕ) → TraceWithin n tables steps → i ≤ steps
    → (cs : List ℕ) (p : Plan) → AllByRecursion (λ c. c < i) cs → AllByRecursion (IsTightAt n tables) (flat_map (below_within steps tables) cs)
    → Apart tables (flat_map (below_within steps tables) cs) → IsAbsent tables t.stage (flat_map (below_within steps tables) cs)
    → sum_by (λ c. least_below n t a b (table_at tables c)) cs < INF
    → HasTimes n p → inbound_at p t.stage ≡ a → outbound_at p t.stage ≡ b → (q : Plan) × Children n tables t steps a b cs p q
trace_children n tables t steps i a b again low [] p earlier known apart absent small times in' out' =
    (p, record { times = times; same = λ j gone. (refl, refl); traced = tt; cost = refl })
trace_children n tables t steps i a b again low (c ∷ cs) p earlier known apart absent small times in' out' =
    let first_part = below_within steps tables c in
    let other_part = flat_map (below_within steps tables) cs in
    let split = sum_by-cons (λ m. least_below n t a b (table_at tables m)) c cs in
    let less : c < steps = omega (arith, earlier.0) in
    let knowns = all_append (IsTightAt n tables) first_part other_part known in
    let parts = apart_append tables first_part other_part apart in
    let gone = all_append (λ k. (table_at tables k).stage ≢ t.stage) first_part other_part absent in
    let choice = child_choice (table_at tables c).kind n (table_at tables c) t.stage a b (omega (arith, split, small)) in
    let first = again c choice.0 p less knowns.0 parts.0 choice.1 (omega (arith, choice.2, split, small)) times in
    let q = first.0 in
    let kept = first.1.same t.stage gone.0 in
    let rest = trace_children n tables t steps i a b again low cs q earlier.1 knowns.1 parts.1 gone.1 (omega (arith, split, small)) first.1.times
    (kept.0 ∙ in') (kept.1 ∙ out') in
    let q' = rest.0 in
    let kept' = rest.1.same t.stage gone.1 in
    let agree = each (λ k. IsAbsent tables (table_at tables k).stage other_part) (λ k. SameAt q q' (table_at tables k).stage)
    (λ k away. rest.1.same (table_at tables k).stage away) first_part parts.2 in
    let meets = choice.3 q (first_holds n tables q steps c less first.1.traced) (kept.0 ∙ in') (kept.1 ∙ out') first.1.stands in
    let child = itself (λ k. SameAt q q' (table_at tables k).stage) tables steps c less agree in
    let sums = same_sum n tables q q' first_part agree in
    let joined = sum_by-append (λ k. stage_cost n q' (table_at tables k).stage) first_part other_part in (
      q',
      record {
        times = rest.1.times;
        same = λ j away.
            let both = all_append (λ k. (table_at tables k).stage ≢ j) first_part other_part away in
            let one = first.1.same j both.0 in
            let two = rest.1.same j both.1 in
            (two.0 ∙ one.0, two.1 ∙ one.1);
        traced = (
          (
            same_meets (table_at tables c).kind n q q' (table_at tables c).stage t.stage child kept' meets,
            same_traced n tables q q' steps c less knowns.0 agree first.1.traced,
          ),
          rest.1.traced,
        );
        cost = omega (arith, split, joined, sums, first.1.cost, choice.2, rest.1.cost);
      },
    )

reach : (n : Net) (tables : List Table) (steps i x : ℕ) (p : Plan) → TraceWithin n tables steps → i < suc steps
    → AllByRecursion (IsTightAt n tables) (below_within (suc steps) tables i) → Apart tables (below_within (suc steps) tables i)
    → get_or (table_at tables i).values x 0 < INF → HasTimes n p → ComesFrom n tables (table_at tables i) x (get_or (table_at tables i).values x 0)
    → (q : Plan) × Step n tables (suc steps) i x p q
reach n tables steps i x p again low known apart small times (a, b, covers, stands, value) =
    let j = (table_at tables i).stage in
    let stage = known.0.shaped.sized.stage in
    let p1 = with_times p j a b in
    let in1 : inbound_at p1 j ≡ a = get_or-set_same p.inbound j a 0 (omega (arith, stage, times.inbound)) in
    let out1 : outbound_at p1 j ≡ b = get_or-set_same p.outbound j b 0 (omega (arith, stage, times.outbound)) in
    let children = trace_children n tables (table_at tables i) steps i a b again (omega arith) (table_at tables i).children p1
    (earlier_from_sound n tables i (sound_from_tight n tables i known.0)) known.1 apart.1 apart.0 (omega (arith, small, value)) (with_has n p j a b times) in1 out1 in
    let q = children.0 in
    let here = children.1.same j apart.0 in
    let in2 : inbound_at q j ≡ a = here.0 ∙ in1 in
    let out2 : outbound_at q j ≡ b = here.1 ∙ out1 in
    let own : stage_cost n q j ≡ charge (stage_at n j).lead (stage_at n j).cost a b =
    ap (λ v. charge (stage_at n j).lead (stage_at n j).cost v (outbound_at q j)) in2
    ∙ ap (λ w. charge (stage_at n j).lead (stage_at n j).cost a w) out2 in
    let split = sum_by-cons (λ k. stage_cost n q (table_at tables k).stage) i (flat_map (below_within steps tables) (table_at tables i).children) in (
      q,
      record {
        times = children.1.times;
        same = λ k away.
            let other = with_other p j a b k (λ is. away.0 (sym is)) in
            let later = children.1.same k away.1 in
            (later.0 ∙ other.0, later.1 ∙ other.1);
        traced = (
          record {
            not_early = omega (arith, covers.not_early, out2);
            not_late = omega (arith, covers.not_late, out2);
            not_below = omega (arith, covers.not_below, in2);
            not_above = omega (arith, covers.not_above, in2);
          },
          children.1.traced,
        );
        stands = ap (λ v. place_of (table_at tables i) v (outbound_at q j)) in2 ∙ ap (λ w. place_of (table_at tables i) a w) out2 ∙ stands;
        cost = omega (arith, split, own, children.1.cost, value, small);
      },
    )

pub trace_within : (n : Net) (tables : List Table) (steps : ℕ) → TraceWithin n tables steps
trace_within n tables zero i x p low known apart inside small times = absurd (omega arith)
trace_within n tables (suc steps) i x p low known apart inside small times = ⊎_elim
    (λ top. absurd (omega (arith, top, small)))
    (λ at. reach n tables steps i x p (trace_within n tables steps) low known apart small times at)
    (known.0.tight.reached x inside)

pub trace_law : TraceLaw
trace_law n tables i x p known once inside small times =
    let found = trace_within n tables (suc i) i x p (omega arith) known (apart_from_once tables (below tables i) once) inside small times in
    (found.0, record { times = found.1.times; same = found.1.same; traced = found.1.traced; stands = found.1.stands; cost = found.1.cost })
