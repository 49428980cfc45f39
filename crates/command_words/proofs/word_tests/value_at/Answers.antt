use Rattle.std.proofs.Common.{◌∙◌, Some, None, sym, ap}
use Rattle.command_words.specs.Words.{value_in}
use Rattle.command_words.proofs.WordFacts.{value_found, nothing_in}
use Rattle.command_words.proofs.word_tests.value_at.Goals as goal

pub returns-in-Some : goal.returns-in-Some
returns-in-Some c = c.value_in.ensures ∙ ap value_in c.as_str.ensures.value ∙ value_found c.args.key c.args.later.now (Some c.in-Some.word.now) (rw c.key_text.ensures at c.in-Some.ensures)

pub returns-in-None : goal.returns-in-None
returns-in-None c = sym nothing_in ∙ value_found c.args.key c.args.later.now None (rw c.key_text.ensures at c.in-None.ensures)
