-- The marks of the numbers behind are set.
use Rattle.std.proofs.Common.{take}
use Rattle.node_rules.specs.Marks.{MarksMore}
use Rattle.node_rules.proofs.marks.mark_all.Given as goal

abbrev pub invariant-numbers : goal.invariant-numbers
invariant-numbers l = MarksMore (take l.number-index l.numbers) l.initial.marks l.marks
