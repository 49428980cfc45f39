use Rattle.std.proofs.Common.{◌≡◌, take}
use Rattle.bound_cert.proofs.values.narrowed_times.Given as goal

abbrev pub invariant-numbers : goal.invariant-numbers
invariant-numbers l = l.found.items ≡ take l.number-index l.numbers
