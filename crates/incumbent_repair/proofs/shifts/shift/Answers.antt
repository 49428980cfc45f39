use Rattle.service_model.specs.Repairs.{Shift}
use Rattle.incumbent_repair.proofs.CandidateFacts.{candidate_from}
use Rattle.incumbent_repair.proofs.shifts.shift.Goals as goal

pub returns : goal.returns
returns c =
    candidate_from c.args.network.now Shift c.args.plan.now c.in_ok-repair.repair c.if_feasible.result c.shifted_plan.ensures.valid c.requires.plan
    c.in_ok-repair.ensures.repair c.if_feasible.ensures
