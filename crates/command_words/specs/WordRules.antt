-- The rules on the words of a command line, and the first that fails.
use Rattle.std.specs.Prelude.{ℕ, ◌+◌, Bool, not, List, [], ◌∷◌, length, take, slice_index_or, Option, Some, None, option_map, position, if◌then◌else◌}
use Rattle.service_model.specs.Search.{first_of, first_below}
use Rattle.command_words.specs.declared.command.Command.{Command}
use Rattle.command_words.specs.declared.word_rules.TheConstants.{NO_WORD, NO_COMMAND, NO_EQUALS, UNKNOWN_KEY, KEY_TWICE, MISSING_KEY, BAD_VALUE, NAME_REUSED}
use Rattle.command_words.specs.declared.word_fault.WordFault.{WordFault}
use Rattle.command_words.specs.Commands.{required_keys, written_file, command_named}
use Rattle.command_words.specs.Words.{has_equals, key_in, is_unknown, has_key, is_bad_value, is_missing, is_reused}

-- a rule, where it fails
unfoldable pub fails_if : ℕ → Bool → Option ℕ
fails_if rule fails = if fails then Some rule else None

-- the rules on a word behind the command, given the words between the command and it
abbrev pub later_rules : Command → List (List ℕ) → List ℕ → List (Option ℕ)
later_rules command earlier word =
    fails_if NO_EQUALS (not (has_equals word))
    ∷ fails_if UNKNOWN_KEY (is_unknown command word)
    ∷ fails_if KEY_TWICE (has_key earlier (key_in word))
    ∷ fails_if BAD_VALUE (is_bad_value command word)
    ∷ []

-- a rule at a place
abbrev pub fault_at : ℕ → ℕ → WordFault
fault_at place rule = record { rule = rule; place = place }

-- the first rule that fails on word k behind the command, at the word's number: the command is word 1
abbrev pub later_fault_at : Command → List (List ℕ) → ℕ → Option WordFault
later_fault_at command later k = option_map (fault_at (k + 2)) (first_of (later_rules command (take k later) (slice_index_or later k [])))

-- the first required key that no word has, at its place among those that the command requires
abbrev pub missing_fault : Command → List (List ℕ) → Option WordFault
missing_fault command later = option_map (λ k. fault_at (k + 1) MISSING_KEY) (position (is_missing later) (required_keys command))

-- what a command writes would take the name of a file that it reads
abbrev pub reuse_fault : Command → List (List ℕ) → Option WordFault
reuse_fault command later = if is_reused command (written_file command) later then Some (fault_at 0 NAME_REUSED) else None

-- the first rule that fails behind a command: on each word in turn, and then on the words together
abbrev pub command_fault : List (List ℕ) → Option Command → Option WordFault
command_fault later None = Some (fault_at 1 NO_COMMAND)
command_fault later (Some command) = first_of (first_below (later_fault_at command later) (length later) ∷ missing_fault command later ∷ reuse_fault command later ∷ [])

-- the first rule that fails on words
unfoldable pub word_fault : List (List ℕ) → Option WordFault
word_fault [] = Some (fault_at 0 NO_WORD)
word_fault (word ∷ later) = command_fault later (command_named word)
