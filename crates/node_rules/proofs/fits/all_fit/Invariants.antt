-- The tables behind fit the range.
use Rattle.std.proofs.Common.{take}
use Rattle.node_rules.specs.Faults.{AllFit}
use Rattle.node_rules.proofs.fits.all_fit.Given as goal

abbrev pub invariant-numbers : goal.invariant-numbers
invariant-numbers l = AllFit l.range.network.now l.range.range.now l.tables (take l.number-index l.numbers)
