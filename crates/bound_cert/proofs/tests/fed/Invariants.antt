use Rattle.std.proofs.Common.{◌≡◌, ◌≤◌, false}
use Rattle.bound_cert.proofs.tests.fed.Given as goal

abbrev pub invariant-pieces : goal.invariant-pieces
invariant-pieces g l = (l.reader.fed ≡ l.count) × (l.count ≤ 100000) × (l.reader.closed ≡ false)
