use Rattle.std.proofs.Common.{◌≡◌, map, take}
use Rattle.network_check.proofs.records.names_of.Given as goal

abbrev pub invariant-rows : goal.invariant-rows
invariant-rows l = l.names ≡ map (λ s. s.name) (take l.row-index l.rows)
