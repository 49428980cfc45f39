use Rattle.std.proofs.Common.{◌≡◌, length}
use Rattle.std.specs.Vec.Iter.{into_iter_items, into_iter_len}
use Rattle.service_model.specs.Parts.{gathered_by, none_gathered, with_items, HasRoom}
use Rattle.service_model.proofs.parts.Parts.cert_of.Given as goal

-- with the items that are left, all are gathered, and there is room for them
abbrev pub invariant-items : goal.invariant-items
invariant-items l = record {
  gathered : with_items (gathered_by l.parts) (into_iter_items l.item-iterator) ≡ with_items none_gathered l.fn.items.items;
  room : HasRoom l.parts (into_iter_items l.item-iterator);
  long : into_iter_len l.item-iterator ≡ length (into_iter_items l.item-iterator);
}
