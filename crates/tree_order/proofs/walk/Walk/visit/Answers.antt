-- The links are those of the stage at the place; each leads to a stage that is seen now or was before.
use Rattle.std.proofs.Common.{◌≡◌, ◌∙◌, ◌<◌, length, get_or, subst, sym, arith}
use Rattle.tree_order.proofs.SeenFacts.{same_at}
use Rattle.tree_order.proofs.StepFacts.{TheLinks, the_links, link_low, within_next, visit_start, visit_end, grows_not, grows_trans, grows_sees}
use Rattle.tree_order.proofs.walk.Walk.visit.Goals as goal

pub links-init : goal.links-init
links-init c =
    let l = c.args.links.now in
    let w = c.args.self.now in
    let from : c.get-from.result.now ≡ get_or c.args.self.now.seen c.args.at 0 = sym (c.get-from.ensures.whatever_else 0) in
    let are = the_links l w c.args.at c.get-from.result.now c.at-number-items.result.now c.requires.links c.requires.between.under_way c.requires.at from c.at-number-items.ensures in
    record {
      within = visit_start l.stages l.arcs.now c.at-number-items.result.now c.args.at w (subst (λ x. TheLinks c.args.links.now.arcs.now c.at-number-items.result.now x) from are) c.requires.between.under_way c.requires.between.left;
      grows = grows_not w.seen;
    }

pub other_end-requires : goal.other_end-requires
other_end-requires c =
    let from : c.get-from.result.now ≡ get_or c.args.self.now.seen c.args.at 0 = sym (c.get-from.ensures.whatever_else 0) in
    let are = the_links c.args.links.now c.args.self.now c.args.at c.get-from.result.now c.at-number-items.result.now c.requires.links c.requires.between.under_way c.requires.at from c.at-number-items.ensures in
    (link_low c.args.links.now.arcs.now c.at-number-items.result.now c.get-from.result.now c.links.number-index are c.links-test.true).0

pub links-preserved : goal.links-preserved
links-preserved c =
    let l = c.args.links.now in
    let from : c.get-from.result.now ≡ get_or c.args.self.now.seen c.args.at 0 = sym (c.get-from.ensures.whatever_else 0) in
    let are = the_links l c.args.self.now c.args.at c.get-from.result.now c.at-number-items.result.now c.requires.links c.requires.between.under_way c.requires.at from c.at-number-items.ensures in
    let grows = c.links.invariant.grows in
    let same = same_at c.args.self.now.seen c.links.self.seen c.args.at grows.front c.requires.at in
    let low : c.args.at < length c.links.self.seen = omega (arith, c.requires.at, grows.longer) in
    record {
      within = within_next l.stages l.arcs.now c.at-number-items.result.now c.links.number-index c.args.at c.other_end.result c.get-from.result.now c.links.self c.see.new.self l.ends are c.links-test.true low c.links.invariant.within (from ∙ sym same) c.other_end.ensures c.in_ok-see.ensures;
      grows = grows_trans c.args.self.now.seen c.links.self.seen c.see.new.self.seen grows (grows_sees c.other_end.result c.get-from.result.now c.links.self c.see.new.self c.in_ok-see.ensures);
    }

pub returns-clause-between : goal.returns-clause-between
returns-clause-between c =
    let l = c.args.links.now in
    record {
      under_way = c.links.invariant.within.under_way;
      left = visit_end l.stages l.arcs.now c.at-number-items.result.now c.links.number-index c.args.at c.links.self c.links-test.false c.links.invariant.within;
      within = omega (arith, c.requires.at, c.links.invariant.grows.longer);
    }
