-- What the words of a command line ask for.
use Rattle.std.specs.Prelude.{ℕ, List, [], ◌∷◌, drop, Option, Some, None, Result, Ok, Err, unwrap_or, Bool, true, false, if◌then◌else◌}
use Rattle.service_model.specs.declared.limits.TheConstants.{MAX_HORIZON, MAX_STAGES}
use Rattle.service_model.specs.declared.cert_rules.TheConstants.{MAX_BUDGET}
use Rattle.gsm_nums.specs.Whole.{whole_of, without_spaces}
use Rattle.gsm_nums.specs.declared.whole.NumFault.{NumFault}
use Rattle.command_words.specs.declared.limits.TheConstants.{MAX_SEED, MAX_EXTRA}
use Rattle.command_words.specs.declared.asked.TrialNumbers.{TrialNumbers}
use Rattle.command_words.specs.declared.command.Command.{Command}
use Rattle.command_words.specs.declared.command.Key.{Key}
use Rattle.command_words.specs.declared.command.Command.TheVariants.{Solve}
use Rattle.command_words.specs.declared.command.Key.TheVariants.{Stages, Tables, Arcs, Horizon, Ranges, Seed, Size, Extra}
use Rattle.command_words.specs.declared.word_fault.WordFault.{WordFault}
use Rattle.command_words.specs.declared.file_word.FileWord.{FileWord}
use Rattle.command_words.specs.Commands.{key_text, command_named, file_key, reads_network, further_file, written_file}
use Rattle.command_words.specs.Words.{has_key, value_at}
use Rattle.command_words.specs.WordRules.{word_fault}

-- a command, the names of the three files of a network, of the command's further file, if it has one, and of the certificate
-- that is to be written, if one is asked for, a horizon, a budget of ranges, if one is asked for, and the numbers that a trial network
-- is made from, where the command reads no network
pub record Asked : Type 0 where
  pub command : Command
  pub stages : List ℕ
  pub tables : List ℕ
  pub arcs : List ℕ
  pub further : List ℕ
  pub cert : Option (List ℕ)
  pub horizon : ℕ
  pub ranges : Option ℕ
  pub trial : Option TrialNumbers

-- the number that was read, and another where none was
abbrev pub or_other : ℕ → Result ℕ NumFault → ℕ
or_other other (Ok n) = n
or_other other (Err e) = other

-- the number that a value shows from a least to a greatest
unfoldable pub number_in : ℕ → ℕ → List ℕ → ℕ
number_in least most value = or_other least (whole_of (without_spaces value) least most)

-- the budget of ranges, where its key is given
abbrev pub ranges_in : List (List ℕ) → Option ℕ
ranges_in later = if has_key later (key_text Ranges) then Some (number_in 1 MAX_BUDGET (value_at Ranges later)) else None

-- the name of a command's further file, if it has one
abbrev pub further_name : Option FileWord → List (List ℕ) → List ℕ
further_name None later = []
further_name (Some word) later = value_at (file_key word) later

-- the name of the file that a command writes, where its key is given
abbrev pub written_name : Option FileWord → List (List ℕ) → Option (List ℕ)
written_name None later = None
written_name (Some word) later = if has_key later (key_text (file_key word)) then Some (value_at (file_key word) later) else None

-- the name of one of the three files of a network, none where the command reads no network
abbrev pub network_name : Bool → Key → List (List ℕ) → List ℕ
network_name true key later = value_at key later
network_name false key later = []

-- the numbers that a trial network is made from, where the command reads no network
abbrev pub trial_in : Bool → List (List ℕ) → Option TrialNumbers
trial_in true later = None
trial_in false later = Some (record {
  seed = number_in 0 MAX_SEED (value_at Seed later);
  stages = number_in 1 MAX_STAGES (value_at Size later);
  extra = number_in 0 MAX_EXTRA (value_at Extra later);
})

-- what a command and the words behind it ask for
abbrev pub asked_by : Command → List (List ℕ) → Asked
asked_by command later = record {
  command = command;
  stages = network_name (reads_network command) Stages later;
  tables = network_name (reads_network command) Tables later;
  arcs = network_name (reads_network command) Arcs later;
  further = further_name (further_file command) later;
  cert = written_name (written_file command) later;
  horizon = number_in 0 MAX_HORIZON (value_at Horizon later);
  ranges = ranges_in later;
  trial = trial_in (reads_network command) later;
}

-- what is asked for, or the rule that fails
abbrev pub unless_fault : Option WordFault → Asked → Result Asked WordFault
unless_fault None asked = Ok asked
unless_fault (Some fault) asked = Err fault

-- the command that the first word names
abbrev pub command_of : List (List ℕ) → Command
command_of [] = Solve
command_of (word ∷ later) = unwrap_or (command_named word) Solve

-- what words ask for, or the first rule on words that fails
unfoldable pub asked_of : List (List ℕ) → Result Asked WordFault
asked_of words = unless_fault (word_fault words) (asked_by (command_of words) (drop 1 words))

-- the name of the certificate in what is asked for, if it is there
abbrev pub cert_in : Result Asked WordFault → Option (List ℕ)
cert_in (Ok q) = q.cert
cert_in (Err fault) = None

-- the name of the certificate that words ask for, if they do and no rule on them fails
abbrev pub cert_name : List (List ℕ) → Option (List ℕ)
cert_name words = cert_in (asked_of words)
