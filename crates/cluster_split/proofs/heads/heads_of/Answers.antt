-- A head by the tops as they are is a head by the tops as they were.
use Rattle.std.proofs.Common.{ℕ, List, length, ap, subst, sym, arith}
use Rattle.std.proofs.lemmas.List.{length_push}
use Rattle.cluster_split.proofs.TopFacts.{LeadTo, short_falls, short_trans, heads_more}
use Rattle.cluster_split.proofs.heads.heads_of.Goals as goal

pub top_of-requires-clause-falls : goal.top_of-requires-clause-falls
top_of-requires-clause-falls c = short_falls c.args.tops.now c.stages.tops c.stages.invariant.short c.requires.falls

pub stages-preserved : goal.stages-preserved
stages-preserved c =
    let old = c.stages.invariant in
    let pushed = c.in_ok-push.ensures.ok in
    record {
      short = short_trans c.args.tops.now c.stages.tops c.top_of.new.tops old.short c.top_of.ensures.shortcut;
      long = omega (arith, ap length pushed, length_push c.stages.heads c.top_of.result, old.long);
      heads = subst (λ (v : List ℕ). LeadTo c.args.tops.now c.args.place.now v) (sym pushed)
          (heads_more c.args.tops.now c.stages.tops c.top_of.new.tops c.args.place.now c.stages.heads c.stages.x c.top_of.result c.requires.falls old.short c.top_of.ensures.shortcut old.long c.top_of.ensures.reached c.top_of.ensures.top old.heads);
    }
