-- Each step leads down the list, and two steps further than before.
use Rattle.std.proofs.Common.{ℕ, List, ◌∙◌, sym, subst}
use Rattle.cluster_split.specs.Tops.{IsShortcut}
use Rattle.cluster_split.proofs.TopFacts.{climb_in, climb_next, climb_less, climb_short, climb_there}
use Rattle.cluster_split.proofs.tops.top_of.Goals as goal

pub get-requires : goal.get-requires
get-requires c = climb_in c.args.tops.now c.climb.tops c.args.place c.climb.at c.requires.falls c.requires.place c.climb.invariant.short c.climb.invariant.there

pub get-next-requires : goal.get-next-requires
get-next-requires c = climb_in c.args.tops.now c.climb.tops c.args.place c.climb.at c.requires.falls c.requires.place c.climb.invariant.short c.climb.invariant.there

pub get-over-requires : goal.get-over-requires
get-over-requires c =
    climb_next c.args.tops.now c.climb.tops c.args.place c.climb.at c.get-next.result.now c.requires.falls c.requires.place c.climb.invariant.short c.climb.invariant.there (c.get-next.ensures.whatever_else 0)

pub set-requires : goal.set-requires
set-requires c = climb_in c.args.tops.now c.climb.tops c.args.place c.climb.at c.requires.falls c.requires.place c.climb.invariant.short c.climb.invariant.there

pub climb-smaller : goal.climb-smaller
climb-smaller c =
    let next = c.get-next.ensures.whatever_else 0 in
    climb_less c.args.tops.now c.climb.tops c.climb.at c.get-next.result.now c.get-over.result.now c.requires.falls c.climb.invariant.short next (c.get-over.ensures.whatever_else 0)
    (λ same. c.climb-test.true (sym (c.get.ensures.whatever_else 0) ∙ next ∙ same))

pub climb-preserved : goal.climb-preserved
climb-preserved c =
    let next = c.get-next.ensures.whatever_else 0 in
    let over = c.get-over.ensures.whatever_else 0 in
    let inside = climb_in c.args.tops.now c.climb.tops c.args.place c.climb.at c.requires.falls c.requires.place c.climb.invariant.short c.climb.invariant.there in
    record {
      short = subst (λ (v : List ℕ). IsShortcut c.args.tops.now v) (sym c.set.ensures) (climb_short c.args.tops.now c.climb.tops c.climb.at c.get-next.result.now c.get-over.result.now c.climb.invariant.short inside next over);
      there = climb_there c.args.tops.now c.climb.tops c.args.place c.climb.at c.get-next.result.now c.get-over.result.now c.climb.invariant.short c.climb.invariant.there next over;
    }
