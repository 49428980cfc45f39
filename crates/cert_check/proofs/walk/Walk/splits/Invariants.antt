use Rattle.std.proofs.Common.{map, take, Ok}
use Rattle.service_model.specs.declared.cert.Item.TheVariants.{Split as SplitItem}
use Rattle.cert_check.specs.Walking.{Walks}
use Rattle.cert_check.proofs.walk.Walk.splits.Given as goal

abbrev pub invariant-splits : goal.invariant-splits
invariant-splits l = Walks l.initial.self l.self (map SplitItem (take l.split-index l.splits)) (Ok tt)
