use Rattle.std.proofs.Common.{◌≡◌, ◌<◌, true, false, None, Some, is_none, length, take, get_or, refl, ◌∙◌, arith}
use Rattle.std.proofs.lemmas.List.{map_more, take_more, take_all}
use Rattle.std.proofs.lemmas.List.Folds.{list_any_at, list_any-append}
use Rattle.std.specs.List.{list_any}
use Rattle.stage_file.specs.PlanTimes.{inbound_of, outbound_of}
use Rattle.stage_file.proofs.PlanFacts.{complete, none_if}
use Rattle.stage_file.proofs.plans.plan_with.Goals as goal

pub returns-in_default : goal.returns-in_default
returns-in_default c =
    let times = c.args.times.now in
    let k = c.stages.k in
    let within : k < length times = omega arith in
    let there : is_none (get_or times k None) ≡ true = rw (c.get.ensures.whatever_else None) (none_if c.get.result.now c.in_default.not-Some) in
    rw (list_any_at is_none times k None within there) c.missing.ensures

pub stages-preserved : goal.stages-preserved
stages-preserved c =
    let times = c.args.times.now in
    let k = c.stages.k in
    let within : k < length times = omega arith in
    let before = c.stages.invariant in
    let there : get_or times k None ≡ Some c.in-Some.times = c.get.ensures.whatever_else None ∙ c.in-Some.is in
    record {
      inbound = rw (c.in_ok-push.ensures.ok, before.inbound, map_more inbound_of times k None within, there) refl;
      outbound = rw (c.in_ok-push-2.ensures.ok, before.outbound, map_more outbound_of times k None within, there) refl;
      none = rw (take_more times k None within, list_any-append, before.none, there) refl;
    }

pub returns : goal.returns
returns c =
    let times = c.args.times.now in
    let whole : take c.stages.k times ≡ times = take_all c.stages.k times (omega arith) in
    let read = c.stages.invariant in
    let none : list_any is_none times ≡ false = rw whole at read.none in
    (complete (list_any is_none times) none, rw (read.inbound, read.outbound, whole) refl)
