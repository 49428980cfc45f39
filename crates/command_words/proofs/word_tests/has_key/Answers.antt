use Rattle.std.proofs.Common.{◌∙◌, string_bytes}
use Rattle.command_words.specs.Words.{is_keyed, has_key}
use Rattle.command_words.proofs.WordFacts.{any_mapped}
use Rattle.command_words.proofs.word_tests.has_key.Goals as goal

pub returns : goal.returns
unfolding has_key
returns c = c.any_keyed.ensures ∙ any_mapped (λ s. string_bytes s) (is_keyed c.args.text.now) c.args.words.now
