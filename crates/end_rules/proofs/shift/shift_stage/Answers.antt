use Rattle.std.proofs.Common.{◌≡◌, List, refl, sym, ◌∙◌, subst, arith, rules}
use Rattle.std.specs.Prelude.{All}
use Rattle.service_model.specs.declared.stage.SupplyArc.{SupplyArc}
use Rattle.service_model.specs.Net.{stage_at}
use Rattle.service_model.specs.Plans.{inbound_at, outbound_at}
use Rattle.service_model.specs.Repairs.{latest_arrival}
use Rattle.end_rules.specs.Inputs.{IsEarly}
use Rattle.end_rules.specs.Shifts.{quoted_after}
use Rattle.end_rules.proofs.InputFacts.{input_is_arrival, inputs_early, inputs_at}
use Rattle.end_rules.proofs.shift.shift_stage.Goals as goal

pub latest_input-latest-requires : goal.latest_input-latest-requires
latest_input-latest-requires c =
    let n = c.args.network.now in
    let arcs = c.as_slice.ensures ∙ inputs_at n c.args.inputs.now c.args.stage c.index-inputs-at.result c.requires.inputs c.requires.stage c.index-inputs-at.is in
    subst (λ (xs : List SupplyArc). All (IsEarly c.args.repair.now.outbound) xs) (sym arcs)
    (inputs_early n c.args.repair.now c.args.stage c.stages.ensures.valid c.requires.repair c.requires.most)

pub returns : goal.returns
returns c =
    let n = c.args.network.now in
    let q = c.args.plan.now in
    let p = c.args.repair.now in
    let j = c.args.stage in
    let arcs = c.as_slice.ensures ∙ inputs_at n c.args.inputs.now c.args.stage c.index-inputs-at.result c.requires.inputs c.requires.stage c.index-inputs-at.is in
    let inbound : c.get-inbound.result.now ≡ inbound_at q j = search rules in
    let outbound : c.get-2.result.now ≡ outbound_at q j = search rules in
    let most : c.get.result.now.most ≡ (stage_at n j).most = search rules in
    let late : c.latest_input-latest.result ≡ latest_arrival n.arcs p j (inbound_at q j) =
    (rw (arcs, inbound) at c.latest_input-latest.ensures) ∙ input_is_arrival n.arcs p j (inbound_at q j) in
    let quoted : c.min.result ≡ quoted_after n q j c.latest_input-latest.result =
    omega (arith, inbound, outbound, most, (c.stages.ensures.valid.stages j c.requires.stage).most, c.stages.ensures.valid.horizon) in
    rw (c.set.ensures, c.set-2.ensures, quoted, late) refl
