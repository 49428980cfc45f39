-- A root is seen, unless it was, and then what it leads to.
use Rattle.std.proofs.Common.{◌≡◌, length, subst, ⊎_elim, arith}
use Rattle.std.specs.Prelude.{Contains}
use Rattle.std.proofs.lemmas.Bool.{cases_lt}
use Rattle.tree_order.proofs.SeenFacts.{stays}
use Rattle.tree_order.proofs.StepFacts.{root_more, grows_trans, grows_sees}
use Rattle.tree_order.proofs.walk.Walk.over.Goals as goal

pub spread-requires-clause-between : goal.spread-requires-clause-between
spread-requires-clause-between c =
    let between = c.roots.invariant.between in
    let end : c.len-first.result ≡ length c.roots.walk.seen = omega (arith, c.len-first.ensures) in
    let root = root_more c.args.links.now.stages c.args.links.now.arcs.now c.len-first.result c.roots.root c.roots.walk c.see.new.self c.roots-test.true end between.under_way between.left c.roots.invariant.lower c.in_ok-see.ensures in
    record { under_way = root.under_way; left = root.left; within = root.within }

pub roots-preserved : goal.roots-preserved
roots-preserved c =
    let between = c.roots.invariant.between in
    let end : c.len-first.result ≡ length c.roots.walk.seen = omega (arith, c.len-first.ensures) in
    let root = root_more c.args.links.now.stages c.args.links.now.arcs.now c.len-first.result c.roots.root c.roots.walk c.see.new.self c.roots-test.true end between.under_way between.left c.roots.invariant.lower c.in_ok-see.ensures in
    let more = c.in_ok-spread.ensures.grows in
    let all = grows_trans c.roots.walk.seen c.see.new.self.seen c.spread.new.self.seen (grows_sees c.roots.root c.roots.root c.roots.walk c.see.new.self c.in_ok-see.ensures) more in
    record {
      between = c.in_ok-spread.ensures.between;
      lower = λ j low. ⊎_elim
          (λ earlier. stays c.roots.walk.seen c.spread.new.self.seen j all.front all.longer (c.roots.invariant.lower j earlier))
          (λ here.
          let is : c.roots.root ≡ j = omega (arith, low, here) in
          subst (λ n. Contains c.spread.new.self.seen n) is (stays c.see.new.self.seen c.spread.new.self.seen c.roots.root more.front more.longer root.there))
          (cases_lt j c.roots.root);
    }
