-- The bound of tight tables with one table of each stage is the least that a traced plan costs.
use Rattle.std.proofs.Common.{◌≡◌, ◌≢◌, ℕ, suc, ◌<◌, ◌≤◌, List, [], ◌∷◌, length, get_or, map, replicate, refl, ap, ◌∙◌, arith}
use Rattle.std.specs.Prelude.{sum_by}
use Rattle.std.specs.List.{AllByRecursion}
use Rattle.std.proofs.lemmas.List.{length-replicate}
use Rattle.std.proofs.lemmas.List.Sums.{sum_by-cons, sum_by-append}
use Rattle.std.proofs.lemmas.List.Elements.{recursion_from_All}
use Rattle.service_model.specs.declared.limits.TheConstants.{INF}
use Rattle.service_model.specs.declared.plan.Plan.{Plan}
use Rattle.service_model.specs.declared.table.Kind.{Kind}
use Rattle.service_model.specs.declared.table.Kind.TheVariants.{Root}
use Rattle.service_model.specs.declared.table.Table.{Table}
use Rattle.service_model.specs.Net.{Net}
use Rattle.service_model.specs.Plans.{HasTimes, inbound_at, outbound_at, stage_cost, cost_of}
use Rattle.service_model.specs.Tables.{table_at, width, place}
use Rattle.service_model.specs.Nodes.{below, below_roots, plan_value, IsSoundAt, IsTightAt, AreSoundBelow, AreTightBelow, IsOnce}
use Rattle.gsm_laws.specs.Traces.{IsAbsent, SameAt, SameOutside, IsTracedNode, IsWhole, cost_at}
use Rattle.gsm_laws.specs.Laws.{WholeLaw}
use Rattle.gsm_laws.proofs.ElementFacts.{each, all_append, all_map, all_concat}
use Rattle.gsm_laws.proofs.SumFacts.{different_sum, different_from_pairs, covering_sum, sum_by-map}
use Rattle.gsm_laws.proofs.BelowFacts.{itself, sound_below}
use Rattle.gsm_laws.proofs.TracedFacts.{traced_law}
use Rattle.gsm_laws.proofs.AgreeFacts.{Apart, apart_append, apart_from_once, same_sum, same_traced}
use Rattle.gsm_laws.proofs.TraceFacts.{trace_within}

-- the numbers of the stages of these tables
abbrev stages_of : List Table → List ℕ → List ℕ
stages_of tables ks = map (λ k. (table_at tables k).stage) ks

-- tables at or below sound roots are of stages that there are
pub stages_there : (n : Net) (tables : List Table) (roots : List ℕ) → AllByRecursion (AreSoundBelow n tables) roots
    → AllByRecursion (λ j. j < length n.stages) (map (λ k. (table_at tables k).stage) (below_roots tables roots))
stages_there n tables roots sound =
    all_map (λ j. j < length n.stages) (λ k. (table_at tables k).stage) (below_roots tables roots)
    (each (IsSoundAt n tables) (λ k. (table_at tables k).stage < length n.stages) (λ k at. at.shaped.sized.stage)
    (below_roots tables roots) (all_concat (IsSoundAt n tables) (below tables) roots sound))

-- tables of different stages cost at most the whole plan
pub once_cost : (n : Net) (tables : List Table) (roots : List ℕ) (p : Plan) → AllByRecursion (AreSoundBelow n tables) roots
    → IsOnce tables (below_roots tables roots) → cost_at n p tables (below_roots tables roots) ≤ cost_of n p
once_cost n tables roots p sound once =
    let same = sum_by-map (stage_cost n p) (λ k. (table_at tables k).stage) (below_roots tables roots) in
    let most = different_sum (stage_cost n p) (length n.stages) (stages_of tables (below_roots tables roots))
    (stages_there n tables roots sound) (different_from_pairs _ once) in
    omega (arith, same, most)

-- one table of each stage costs the whole plan
pub whole_cost : (n : Net) (tables : List Table) (roots : List ℕ) (p : Plan) → AllByRecursion (AreSoundBelow n tables) roots → IsWhole n tables roots
    → cost_at n p tables (below_roots tables roots) ≡ cost_of n p
whole_cost n tables roots p sound whole =
    let same = sum_by-map (stage_cost n p) (λ k. (table_at tables k).stage) (below_roots tables roots) in
    let least = covering_sum (stage_cost n p) (length n.stages) (stages_of tables (below_roots tables roots)) whole.every in
    omega (arith, same, least, once_cost n tables roots p sound whole.once)

root_value : (p : Plan) (t : Table) → t.kind ≡ Root → plan_value p t ≡ get_or t.values 0 0
root_value p t root = ap (λ (kind : Kind). get_or t.values (place kind t.least t.floor (inbound_at p t.stage) (outbound_at p t.stage)) 0) root

-- the roots' values sum up to at most what a traced plan costs
pub lower_roots : (n : Net) (tables : List Table) (p : Plan) (roots : List ℕ) → AllByRecursion (AreSoundBelow n tables) roots
    → AllByRecursion (λ k. (table_at tables k).kind ≡ Root) roots → IsTracedNode n tables p roots
    → sum_by (λ k. get_or (table_at tables k).values 0 0) roots ≤ cost_at n p tables (below_roots tables roots)
lower_roots n tables p [] sound kinds traced = omega arith
lower_roots n tables p (k ∷ roots) sound kinds traced =
    let first = traced_law n tables p k sound.0 traced.0 in
    let same = root_value p (table_at tables k) kinds.0 in
    let rest = lower_roots n tables p roots sound.1 kinds.1 traced.1 in
    rw (sum_by-cons, sum_by-append) (omega (arith, first, same, rest))

root_width : (n : Net) (t : Table) → t.kind ≡ Root → length t.values ≡ width t.kind n.horizon t.least t.most t.floor → 0 < length t.values
root_width n t root long =
    let one : width t.kind n.horizon t.least t.most t.floor ≡ 1 = ap (λ (kind : Kind). width kind n.horizon t.least t.most t.floor) root in
    omega (arith, one, long)

-- the plan q is p but at and below the roots, which it traces at their values
pub record Roots (n : Net) (tables : List Table) (roots : List ℕ) (p q : Plan) : Type 0 where
  pub times : HasTimes n q
  pub same : SameOutside tables (below_roots tables roots) p q
  pub traced : IsTracedNode n tables q roots
  pub cost : cost_at n q tables (below_roots tables roots) ≡ sum_by (λ k. get_or (table_at tables k).values 0 0) roots

pub trace_roots : (n : Net) (tables : List Table) (roots : List ℕ) (p : Plan) → AllByRecursion (AreTightBelow n tables) roots
    → AllByRecursion (λ k. (table_at tables k).kind ≡ Root) roots → Apart tables (below_roots tables roots)
    → sum_by (λ k. get_or (table_at tables k).values 0 0) roots < INF → HasTimes n p → (q : Plan) × Roots n tables roots p q
trace_roots n tables [] p known kinds apart small times =
    (p, record { times = times; same = λ j gone. (refl, refl); traced = tt; cost = refl })
trace_roots n tables (k ∷ roots) p known kinds apart small times =
    let split = sum_by-cons (λ m. get_or (table_at tables m).values 0 0) k roots in
    let parts = apart_append tables (below tables k) (below_roots tables roots) apart in
    let here = itself (IsTightAt n tables) tables (suc k) k (omega arith) known.0 in
    let first = trace_within n tables (suc k) k 0 p (omega arith) known.0 parts.0
    (root_width n (table_at tables k) kinds.0 here.shaped.sized.values) (omega (arith, split, small)) times in
    let q = first.0 in
    let rest = trace_roots n tables roots q known.1 kinds.1 parts.1 (omega (arith, split, small)) first.1.times in
    let q' = rest.0 in
    let agree = each (λ m. IsAbsent tables (table_at tables m).stage (below_roots tables roots)) (λ m. SameAt q q' (table_at tables m).stage)
    (λ m away. rest.1.same (table_at tables m).stage away) (below tables k) parts.2 in
    let sums = same_sum n tables q q' (below tables k) agree in
    let joined = sum_by-append (λ m. stage_cost n q' (table_at tables m).stage) (below tables k) (below_roots tables roots) in (
      q',
      record {
        times = rest.1.times;
        same = λ j away.
            let both = all_append (λ m. (table_at tables m).stage ≢ j) (below tables k) (below_roots tables roots) away in
            let one = first.1.same j both.0 in
            let two = rest.1.same j both.1 in
            (two.0 ∙ one.0, two.1 ∙ one.1);
        traced = (same_traced n tables q q' (suc k) k (omega arith) known.0 agree first.1.traced, rest.1.traced);
        cost = omega (arith, split, joined, sums, first.1.cost, rest.1.cost);
      },
    )

-- a plan of no times
abbrev zeros : Net → Plan
zeros n = record { inbound = replicate (length n.stages) 0; outbound = replicate (length n.stages) 0 }

zeros_has : (n : Net) → HasTimes n (zeros n)
zeros_has n = record { inbound = length-replicate (length n.stages) 0; outbound = length-replicate (length n.stages) 0 }

pub whole_law : WholeLaw
whole_law n tables roots known whole =
    let sound = each (AreTightBelow n tables) (AreSoundBelow n tables) (sound_below n tables) roots known in
    let kinds = recursion_from_All (λ k. (table_at tables k).kind ≡ Root) roots whole.kinds in
    record {
      lower = λ p traced.
          let sum = lower_roots n tables p roots sound kinds traced in
          omega (arith, sum, whole_cost n tables roots p sound whole);
      reached = λ small.
          let found = trace_roots n tables roots (zeros n) known kinds (apart_from_once tables (below_roots tables roots) whole.once)
          (omega (arith, small)) (zeros_has n) in
          (found.0, found.1.times, found.1.traced, omega (arith, found.1.cost, whole_cost n tables roots found.0 sound whole, small));
    }
