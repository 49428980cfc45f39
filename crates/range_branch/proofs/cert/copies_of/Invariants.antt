use Rattle.std.proofs.Common.{◌≡◌, take}
use Rattle.range_branch.proofs.cert.copies_of.Given as goal

abbrev pub invariant-tables : goal.invariant-tables
invariant-tables l = l.tables ≡ take l.filled-index l.made
