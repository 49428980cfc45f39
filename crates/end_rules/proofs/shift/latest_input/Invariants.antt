use Rattle.std.proofs.Common.{◌≡◌, take}
use Rattle.end_rules.specs.Inputs.{latest_input}
use Rattle.end_rules.proofs.shift.latest_input.Given as goal

abbrev pub invariant-loop-arc : goal.invariant-loop-arc
invariant-loop-arc l = l.latest ≡ latest_input (take l.arc-index l.arcs) l.outbound l.time
