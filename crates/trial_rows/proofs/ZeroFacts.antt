-- The network of a trial allows the plan whose times are all 0.
use Rattle.std.proofs.Common.{◌≡◌, ℕ, ◌+◌, ◌-◌, ◌*◌, ◌<◌, ◌≤◌, nat_le, List, [], length, get_or, map, replicate, All, sym, ap, ◌∙◌, subst, arith}
use Rattle.std.proofs.Math.Nat.{mul-le-mul_left}
use Rattle.std.proofs.lemmas.List.{length-map, get_or-map, length-replicate, get_or-replicate}
use Rattle.std.specs.List.{zip}
use Rattle.std.proofs.lemmas.Bool.{le-leb, cond-true}
use Rattle.std.proofs.lemmas.Slice.Zip.{length-zip, get_or-zip}
use Rattle.service_model.specs.declared.limits.TheConstants.{INF}
use Rattle.service_model.specs.declared.plan.Plan.{Plan}
use Rattle.service_model.specs.declared.stage.Stage.{Stage}
use Rattle.service_model.specs.Net.{Net, no_stage}
use Rattle.service_model.specs.Plans.{entry_of, charge, outbound_at, FitsTimes, FitsStage, Meets, Feasible}
use Rattle.stage_file.specs.declared.stages.StageRow.{StageRow}
use Rattle.stage_file.specs.declared.raw.RawNet.{RawNet}
use Rattle.stage_file.specs.Raw.{raw_of}
use Rattle.demand_tables.specs.Demand.{no_row, row_at, excess_at, HasExcess}
use Rattle.demand_tables.specs.DemandFaults.{supply_arc}
use Rattle.network_check.specs.declared.checked.Checked.{Checked}
use Rattle.network_check.specs.Checked.{stage_with, stages_from, supply_arcs, network_from}
use Rattle.trial_rows.specs.declared.drawn.TrialStage.{TrialStage}
use Rattle.trial_rows.specs.declared.drawn.TrialArc.{TrialArc}
use Rattle.trial_rows.specs.Trials.{IsTrial, stage_of, no_stage as no_trial_stage, trial_files}
use Rattle.trial_rows.specs.Laws.{zero_plan, ZeroPlanLaw}
use Rattle.trial_rows.proofs.DemandFacts.{excess_small}
use Rattle.trial_rows.proofs.PassFacts.{no_row_of_arc, stages_read, arcs_read, arc_is, normal}
use Rattle.trial_rows.proofs.ArcFacts.{no_arc}
use Rattle.trial_rows.proofs.StageFacts.{fits}
use Rattle.trial_rows.proofs.StageFileFacts.{read_is}

-- a record beside its excess demands, as a stage
abbrev stage_of_pair : StageRow × List ℕ → Stage
stage_of_pair p = stage_with p.0 p.1

stage_is : (rows : List StageRow) (lists : List (List ℕ)) (j : ℕ) → length lists ≡ length rows → j < length rows
    → get_or (stages_from rows lists) j no_stage ≡ stage_with (get_or rows j no_row) (get_or lists j [])
stage_is rows lists j long within =
    let inside : j < length (zip rows lists) = omega (arith, long, within, length-zip rows lists) in
    get_or-map stage_of_pair (zip rows lists) j (no_row, []) no_stage inside ∙ ap stage_of_pair (get_or-zip rows lists j (no_row, []) within (omega (arith, long, within)))

product_small : (unit x : ℕ) → unit ≤ 50 → x ≤ 2000 → unit * x ≤ 50 * 2000
product_small unit x u e =
    let first : unit * x ≤ unit * 2000 = mul-le-mul_left unit e in
    omega (arith, first, u)

-- the cost of a lead time within the horizon
cost_small : (horizon unit lead : ℕ) (xs : List ℕ) → unit ≤ 50 → lead ≤ horizon → length xs ≡ horizon + 1 → All (λ x. x ≤ 2000) xs → get_or (map (λ x. unit * x) xs) lead INF < INF
cost_small horizon unit lead xs u l long small =
    let inside : lead < length xs = omega (arith, l, long) in
    let at : get_or (map (λ x. unit * x) xs) lead INF ≡ unit * get_or xs lead 0 = get_or-map (λ (x : ℕ). unit * x) xs lead 0 INF inside in
    let le : unit * get_or xs lead 0 ≤ 50 * 2000 = product_small unit (get_or xs lead 0) u (small lead 0 inside) in
    omega (arith, at, le)

-- the times 0 fit a stage whose supply time and least outbound time are 0
zero_fits : (horizon : ℕ) (row : StageRow) (xs : List ℕ) → row.supply ≡ 0 → row.least ≡ 0 → row.lead ≤ horizon → row.unit ≤ 50 → length xs ≡ horizon + 1 → All (λ x. x ≤ 2000) xs
    → FitsTimes horizon (stage_with row xs) 0 0
zero_fits horizon row xs supply least lead unit long small =
    let back : 0 + row.lead - 0 ≡ row.lead = omega arith in
    let cost : entry_of (map (λ x. row.unit * x) xs) (0 + row.lead - 0) < INF = rw back (cost_small horizon row.unit row.lead xs unit lead long small) in
    let paid : charge row.lead (map (λ x. row.unit * x) xs) 0 0 ≡ entry_of (map (λ x. row.unit * x) xs) (0 + row.lead - 0) =
    cond-true (nat_le 0 (0 + row.lead)) (entry_of (map (λ x. row.unit * x) xs) (0 + row.lead - 0)) INF (le-leb 0 (0 + row.lead) (omega arith)) in
    record {
      supplied = omega (arith, supply);
      within = omega arith;
      not_early = omega (arith, least);
      not_late = omega arith;
      allowed = omega (arith, paid, cost);
    }

module _ (horizon : ℕ) (stages : List TrialStage) (arcs : List TrialArc) (trial : IsTrial horizon stages arcs) (lists : List (List ℕ)) where
  abbrev raw : RawNet
  raw = raw_of horizon (trial_files stages arcs)

  abbrev plan : Plan
  plan = zero_plan (length stages)

  module _ (has : HasExcess raw lists) where
    count : length raw.stages ≡ length stages
    count = stages_read horizon stages arcs trial

    net_count : length (stages_from raw.stages lists) ≡ length stages
    net_count = omega (arith, has.long, count, length-map (zip raw.stages lists) stage_of_pair, length-zip raw.stages lists)

    stage_fits : (j : ℕ) → j < length stages → FitsStage (network_from raw lists) plan j
    stage_fits j inside =
        let there : j < length raw.stages = omega (arith, inside, count) in
        let is = read_is horizon stages arcs trial j inside in
        let fit = fits horizon (stage_of stages j) (trial.within j no_trial_stage inside) in
        let small = excess_small raw (omega (arith, trial.horizon_within)) (normal horizon stages arcs trial) lists has j there in
        let zero = zero_fits horizon (row_at raw j) (excess_at lists j) is.supply is.least (omega (arith, is.lead, fit.in_time)) (omega (arith, is.unit, fit.unit)) small.0 small.1 in
        let none : get_or (replicate (length stages) 0) j 0 ≡ 0 = get_or-replicate {A = ℕ} (length stages) j 0 0 inside in
        rw (stage_is raw.stages lists j has.long there, none) zero

    meets : All (Meets plan) (supply_arcs raw)
    meets k d low =
        let inside : k < length raw.arcs = omega (arith, low, length-map raw.arcs supply_arc) in
        let there : k < length arcs = omega (arith, inside, arcs_read horizon stages arcs trial) in
        let is = arc_is horizon stages arcs trial k no_row_of_arc there in
        let within = trial.arcs_within k no_arc there in
        let supplier : outbound_at plan (get_or raw.arcs k no_row_of_arc).supplier ≡ 0 = get_or-replicate {A = ℕ} (length stages) (get_or raw.arcs k no_row_of_arc).supplier 0 0 (omega (arith, is.supplier, within.supplier)) in
        rw (get_or-map supply_arc raw.arcs k no_row_of_arc d inside) (omega (arith, supplier, is.transit))

    pub feasible : Feasible (network_from raw lists) plan
    feasible = record {
      times = record { inbound = length-replicate (length stages) 0 ∙ sym net_count; outbound = length-replicate (length stages) 0 ∙ sym net_count };
      stages = λ j inside. stage_fits j (omega (arith, inside, net_count));
      arcs = meets;
    }

pub zero_plan_law : ZeroPlanLaw
zero_plan_law horizon stages arcs c trial is =
    let allowed = feasible horizon stages arcs trial c.excess is.excess in
    subst (λ (n : Net). Feasible n (zero_plan (length stages))) (sym (ap (λ (x : Checked). x.network) is.made)) allowed
