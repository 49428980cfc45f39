-- The rules on a split.
use Rattle.std.specs.Prelude.{◌==◌}
use Rattle.service_model.specs.declared.cert_rules.TheConstants.{SPLIT_NODE, SPLIT_LATE, SPLIT_PLAN, SPLIT_ARC}
use Rattle.cert_laws.proofs.TablesKeptFacts.{either}
use Rattle.range_splits.specs.Laws.{SplitLaw}

pub split_law : SplitLaw
split_law n h s next early relaxed breaks rule =
    either (rule == SPLIT_NODE) _ _ next (either (rule == SPLIT_LATE) _ _ early (either (rule == SPLIT_PLAN) _ _ relaxed (either (rule == SPLIT_ARC) _ _ breaks tt)))
