use Rattle.std.proofs.Common.{List, subst, arith}
use Rattle.service_model.specs.declared.range.Range.{Range}
use Rattle.service_model.specs.declared.table.Table.{Table}
use Rattle.service_model.specs.Ranges.{whole_of, HasIntervals}
use Rattle.range_nodes.specs.Nodes.{IsMade}
use Rattle.range_branch.specs.First.{IsFirst}
use Rattle.range_branch.proofs.RepairableFacts.{repairable}
use Rattle.range_branch.proofs.FirstFacts.{first_is_progress, whole_inside}
use Rattle.range_branch.proofs.first.first_progress.Goals as goal

pub best_repair-requires-clause-plan : goal.best_repair-requires-clause-plan
best_repair-requires-clause-plan g c =
    let n = c.args.given.now.network.now in
    let f = c.args.given.now.forest.now in
    let whole = c.in_ok-range.ensures.value in
    let intervals = subst (HasIntervals n) whole c.in_ok-range.ensures.within in
    let made = subst (λ (r : Range). IsMade n f r c.args.pool.now c.made_node.new.pool c.args.steps.now c.made_node.new.steps c.in_ok-made.made) whole c.in_ok-made.ensures.ok in
    repairable n f c.made_node.new.pool (whole_of n) c.in_ok-made.made.node (whole_inside n intervals) made.node

pub returns : goal.returns
returns g c =
    let n = c.args.given.now.network.now in
    let f = c.args.given.now.forest.now in
    let given = c.requires.given in
    let whole = c.in_ok-range.ensures.value in
    let intervals = subst (HasIntervals n) whole c.in_ok-range.ensures.within in
    let made = subst (λ (r : Range). IsMade n f r c.args.pool.now c.made_node.new.pool c.args.steps.now c.made_node.new.steps c.in_ok-made.made) whole c.in_ok-made.ensures.ok in
    let fresh = subst (λ (ts : List Table). IsMade n f (whole_of n) ts c.made_node.new.pool c.args.steps.now c.made_node.new.steps c.in_ok-made.made) c.requires.pool made in
    let first = subst (λ (r : Range). IsFirst r c.in_ok-made.made c.in_ok-found.found c.in_ok-progress.progress) whole c.in_ok-progress.ensures in
    let steps = fresh.steps in
    let few = fresh.few in
    record {
      progress = first_is_progress n f c.args.given.now.budget c.made_node.new.pool c.args.steps.now c.made_node.new.steps c.in_ok-made.made c.in_ok-found.found
          c.in_ok-progress.progress given.valid given.forest given.some given.most intervals fresh c.in_ok-found.ensures first;
      steps = omega (arith, steps);
      later = c.in_ok-made.ensures.later;
      few = c.in_ok-made.ensures.few;
    }
