-- The top leads to the place above it, and then on to that place's top.
use Rattle.std.proofs.Common.{ℕ, List, get_or, sym, subst}
use Rattle.cluster_split.specs.Tops.{Falls, IsShortcut, Reaches}
use Rattle.cluster_split.proofs.MergeFacts.{lift_falls, lift_are, lift_step}
use Rattle.cluster_split.proofs.tops.lift.Goals as goal

pub top_of-requires-clause-falls : goal.top_of-requires-clause-falls
top_of-requires-clause-falls c =
    subst (λ (v : List ℕ). Falls v) (sym c.set.ensures) (lift_falls c.args.up.now c.args.tops.now c.args.top c.requires.falls c.requires.tops c.requires.inside c.requires.below)

pub returns-clause-tops : goal.returns-clause-tops
returns-clause-tops c =
    let short = subst (λ (v : List ℕ). IsShortcut v c.top_of.new.tops) c.set.ensures c.top_of.ensures.shortcut in
    lift_are c.args.up.now c.args.tops.now c.top_of.new.tops c.args.top c.requires.falls c.requires.tops c.requires.inside c.requires.below short

pub returns-clause-lifts : goal.returns-clause-lifts
returns-clause-lifts c =
    let short = subst (λ (v : List ℕ). IsShortcut v c.top_of.new.tops) c.set.ensures c.top_of.ensures.shortcut in
    let there = subst (λ (v : List ℕ). Reaches v (get_or c.args.up.now c.args.top 0) c.top_of.result) c.set.ensures c.top_of.ensures.reached in
    lift_step c.args.up.now c.args.tops.now c.top_of.new.tops c.args.top c.top_of.result c.requires.falls c.requires.tops c.requires.inside c.requires.below short there c.top_of.ensures.top
