use Rattle.std.proofs.Common.{rules, ◌≡◌, ◌+◌, List, length, vec_len, sym, ◌∙◌, subst}
use Rattle.service_model.specs.declared.cert.Item.{Item}
use Rattle.service_model.specs.Parts.{HasRoom, HasRoomOf}
use Rattle.service_model.proofs.PartFacts.{room_made}
use Rattle.service_model.proofs.collector.Collector.keep.Goals as goal

pub invariant_of-self-2 : goal.invariant_of-self-2
invariant_of-self-2 c =
    let parts = c.make_room.new.self in
    let items = c.self.inside.items.items in
    let long : vec_len c.self.inside.items ≡ length items = search rules in
    let more : HasRoomOf parts c.args.item (length items + 1) = rw (← long, ← c.len.ensures) c.in_ok-make_room.ensures.made in (
      c.make_room.ensures.gathered ∙ c.self.invariant.0,
      subst (λ (all : List Item). HasRoom parts all) (sym c.in_ok-push.ensures.items)
          (room_made parts items c.args.item (c.make_room.ensures.kept items c.self.invariant.1) more),
    )
