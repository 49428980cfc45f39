use Rattle.std.proofs.Common.{sym, ◌∙◌}
use Rattle.command_words.proofs.WordFacts.{fails_here, holds_here}
use Rattle.command_words.proofs.word_fault.later_fault.Goals as goal

pub returns-in-Some : goal.returns-in-Some
returns-in-Some c =
    let rules = rw c.as_str.ensures.value at c.in-Some.ensures in
    c.fault_at.ensures ∙ sym (fails_here c.args.command c.args.later.now c.words.k c.index-later-k.result c.in-Some.rule c.words-test.true c.index-later-k.is c.words.invariant (sym rules))

pub words-preserved : goal.words-preserved
words-preserved c =
    let rules = rw c.as_str.ensures.value at c.later_rule.ensures in
    holds_here c.args.command c.args.later.now c.words.k c.index-later-k.result c.words-test.true c.index-later-k.is c.words.invariant (sym rules ∙ c.in_default.is)
