use Rattle.std.proofs.Common.{◌≡◌, [], replicate}
use Rattle.end_rules.proofs.inputs.empty_lists.Given as goal

abbrev pub invariant-loop-stage : goal.invariant-loop-stage
invariant-loop-stage l = l.lists.items ≡ replicate l._stage []
