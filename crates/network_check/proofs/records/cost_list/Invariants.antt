use Rattle.std.proofs.Common.{◌≡◌, ◌*◌, map, take}
use Rattle.network_check.proofs.records.cost_list.Given as goal

abbrev pub invariant-times : goal.invariant-times
invariant-times l = l.cost ≡ map (λ x. l.unit * x) (take l.stock-index l.excess)
