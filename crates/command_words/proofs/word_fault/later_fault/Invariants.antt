use Rattle.std.proofs.Common.{◌≡◌, None}
use Rattle.service_model.specs.Search.{first_below}
use Rattle.command_words.specs.Words.{texts}
use Rattle.command_words.specs.WordRules.{later_fault_at}
use Rattle.command_words.proofs.word_fault.later_fault.Given as goal

abbrev pub invariant-words : goal.invariant-words
invariant-words l = first_below (later_fault_at l.command (texts l.later)) l.k ≡ None
