-- What the least cost with arcs left out says of the network's feasible plans.
use Rattle.std.proofs.Common.{◌≡◌, ℕ, ◌+◌, ◌<◌, ◌≤◌, Bool, true, false, cond, Option, Some, None, List, [], ◌∷◌, length, get_or, subst, arith}
use Rattle.std.specs.Prelude.{All, max, ◌==◌}
use Rattle.std.proofs.lemmas.List.{get_or-map, get_or_default}
use Rattle.std.proofs.lemmas.List.Elements.{All-get_or}
use Rattle.service_model.specs.declared.limits.TheConstants.{INF}
use Rattle.service_model.specs.declared.stage.Stage.{Stage}
use Rattle.service_model.specs.declared.stage.SupplyArc.{SupplyArc}
use Rattle.service_model.specs.declared.plan.Plan.{Plan}
use Rattle.service_model.specs.declared.range.Range.{Range}
use Rattle.service_model.specs.Net.{Net, stage_at, no_stage, no_arc}
use Rattle.service_model.specs.Plans.{Feasible, Meets, inbound_at, outbound_at, stage_cost, cost_of}
use Rattle.service_model.specs.Networks.{IsNetwork}
use Rattle.service_model.specs.Ranges.{whole_of, IsIn, latest_start}
use Rattle.service_model.specs.Forests.{IsKept}
use Rattle.service_model.specs.Relaxed.{IsRelaxedPlan, IsRelaxedLeast}
use Rattle.service_model.proofs.CostFacts.{charge_below_top, allowed_within}
use Rattle.service_model.proofs.NetworkFacts.{IsNetwork-HasEnds}
use Rattle.service_model.proofs.RangeFacts.{floor_le}
use Rattle.arc_relax.specs.Laws.{HasPlan, EmptyLaw, FeasibleLaw, IsSolution, TreeLaw}

-- a plan of a range costs less than INF
pub relaxed_small : (n : Net) (r : Range) (parent : List ℕ) (p : Plan) → IsNetwork n → IsRelaxedPlan n r parent p → cost_of n p < INF
relaxed_small n r parent p valid relaxed =
    let most = allowed_within n (stage_cost n p) valid
    (λ j low. charge_below_top (stage_at n j).lead (stage_at n j).cost (inbound_at p j) (outbound_at p j) (relaxed.stages j low).allowed)
    (length n.stages) (omega arith) in
    omega (arith, most)

pub empty_law : EmptyLaw
empty_law n r parent p valid least relaxed = omega (arith, least.lower p relaxed, relaxed_small n r parent p valid relaxed)

pub feasible_law : FeasibleLaw
feasible_law n r parent p valid feasible inside = record {
  times = feasible.times;
  stages = λ j low.
      let at = feasible.stages j low in record {
        not_early = (inside j low).0;
        not_late = (inside j low).1;
        not_below = floor_le n r p j (IsNetwork-HasEnds n valid) feasible inside low;
        not_above = at.within;
        allowed = at.allowed;
      };
  arcs = λ a within kept. All-get_or (Meets p) n.arcs a no_arc within feasible.arcs;
}

-- the whole range

least_at : (n : Net) (j : ℕ) → j < length n.stages → get_or (whole_of n).least j 0 ≡ (stage_at n j).least
least_at n j low = get_or-map (λ (s : Stage). s.least) n.stages j no_stage 0 low

most_at : (n : Net) (j : ℕ) → j < length n.stages → get_or (whole_of n).most j 0 ≡ (stage_at n j).most
most_at n j low = get_or-map (λ (s : Stage). s.most) n.stages j no_stage 0 low

-- a feasible plan is in the whole range
pub feasible_in : (n : Net) (p : Plan) → Feasible n p → IsIn n (whole_of n) p
feasible_in n p feasible j low =
    let at = feasible.stages j low in
    (omega (arith, at.not_early, least_at n j low), omega (arith, at.not_late, most_at n j low))

-- the latest start is not before the first
raised_ge : (leads : Bool) (x y z : ℕ) → z ≤ y → z ≤ cond leads (max x y) y
raised_ge true x y z le = omega arith
raised_ge false x y z le = le

pub latest_ge : (arcs : List SupplyArc) (starts : List ℕ) (j start : ℕ) → start ≤ latest_start arcs starts j start
latest_ge [] starts j start = omega arith
latest_ge (a ∷ arcs) starts j start =
    raised_ge (a.customer == j) (get_or starts a.supplier 0 + a.transit) (latest_start arcs starts j start) start (latest_ge arcs starts j start)

-- where each arc is kept, a plan of the whole range that meets the kept arcs is feasible
pub whole_feasible : (n : Net) (parent : List ℕ) (p : Plan) → All (IsKept parent) n.arcs → IsRelaxedPlan n (whole_of n) parent p → Feasible n p
whole_feasible n parent p kept relaxed = record {
  times = relaxed.times;
  stages = λ j low.
      let at = relaxed.stages j low in
      let late = latest_ge n.arcs (whole_of n).least j (stage_at n j).supply in
      record {
        supplied = let floor = at.not_below in let above = at.not_above in omega (arith, late, floor, above);
        within = at.not_above;
        not_early = omega (arith, at.not_early, least_at n j low);
        not_late = omega (arith, at.not_late, most_at n j low);
        allowed = at.allowed;
      };
  arcs = λ a d within.
      subst (λ (arc : SupplyArc). Meets p arc) (get_or_default n.arcs a no_arc d within)
      (relaxed.arcs a within (kept a no_arc within));
}

-- a plan or none, where the range is the whole one
solution : (n : Net) (parent : List ℕ) (bound : ℕ) (plan : Option Plan) → IsNetwork n → All (IsKept parent) n.arcs
    → IsRelaxedLeast n (whole_of n) parent bound → HasPlan n (whole_of n) parent bound plan → IsSolution n bound plan
solution n parent bound None valid kept least has = (
  λ p feasible. empty_law n (whole_of n) parent p valid (subst (IsRelaxedLeast n (whole_of n) parent) has least)
      (feasible_law n (whole_of n) parent p valid feasible (feasible_in n p feasible)),
  has,
)
solution n parent bound (Some p) valid kept least has = (
  record {
    feasible = whole_feasible n parent p kept has.0;
    least = λ q feasible.
        let lower = least.lower q (feasible_law n (whole_of n) parent q valid feasible (feasible_in n q feasible)) in
        let same = has.1 in
        omega (arith, lower, same);
  },
  has.1,
)

pub tree_law : TreeLaw
tree_law n r parent bound plan valid kept whole least has =
    solution n parent bound plan valid kept
    (subst (λ (s : Range). IsRelaxedLeast n s parent bound) whole least)
    (subst (λ (s : Range). HasPlan n s parent bound plan) whole has)
