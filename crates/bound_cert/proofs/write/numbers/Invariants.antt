use Rattle.std.proofs.Common.{◌≡◌, map, take}
use Rattle.serde_json.specs.View.{view}
use Rattle.bound_cert.specs.Lines.{whole}
use Rattle.bound_cert.proofs.write.numbers.Given as goal

abbrev pub invariant-items : goal.invariant-items
invariant-items l = map view l.values.items ≡ map whole (take l.item-index l.items)
