use Rattle.std.proofs.Common.{rules, List, length, refl, sym, ap, ◌∙◌, subst, arith}
use Rattle.std.specs.Vec.Iter.{into_iter_items}
use Rattle.service_model.specs.declared.cert.Item.{Item}
use Rattle.service_model.specs.Parts.{gathered_by, with_items, cert_by, HasRoom}
use Rattle.service_model.proofs.PartFacts.{room_of_first, cert_gathered, none_left}
use Rattle.service_model.proofs.parts.Parts.cert_of.Goals as goal

pub items-init : goal.items-init
items-init c =
    let all = c.into_iter-item-iterator.ensures.into_iter_gives.0 in
    record {
      gathered = rw (all, c.requires.gathered) refl;
      room = rw all c.requires.room;
      long = search rules;
    }

pub add-requires : goal.add-requires
add-requires c =
    room_of_first _ _ (into_iter_items c.next.new.self)
    (subst (λ (items : List Item). HasRoom c.items.parts items) c.in-Some.ensures.steps.0 c.items.invariant.room)

pub items-preserved : goal.items-preserved
items-preserved c =
    let at = c.items.invariant in
    let steps = c.in-Some.ensures.steps in
    record {
      gathered = ap (λ g. with_items g (into_iter_items c.next.new.self)) c.add.ensures.gathered
          ∙ ap (with_items (gathered_by c.items.parts)) (sym steps.0) ∙ at.gathered;
      room = c.add.ensures.room _ (subst (λ (items : List Item). HasRoom c.items.parts items) steps.0 at.room);
      long = omega (arith, at.long, steps.1, ap length steps.0);
    }

pub returns : goal.returns
returns c =
    let at = c.items.invariant in
    let none = none_left _ (sym at.long ∙ c.in-None.ensures.steps.0) in
    c.cert.ensures ∙ ap cert_by (ap (with_items (gathered_by c.items.parts)) (sym none) ∙ at.gathered) ∙ cert_gathered c.args.items.items
