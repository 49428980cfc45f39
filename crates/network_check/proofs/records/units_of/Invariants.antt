use Rattle.std.proofs.Common.{◌≡◌, map, take}
use Rattle.network_check.proofs.records.units_of.Given as goal

abbrev pub invariant-rows : goal.invariant-rows
invariant-rows l = l.units ≡ map (λ s. s.unit) (take l.row-index l.rows)
