-- The commands with their keys.
use Rattle.std.specs.Prelude.{ℕ, ◌^◌, ◌≤◌, List, [], ◌∷◌, Option, Some, None, codes, bytes_eq, find, true, false, Bool, ⊤}
use Rattle.service_model.specs.declared.limits.TheConstants.{MAX_HORIZON, MAX_STAGES}
use Rattle.service_model.specs.declared.cert_rules.TheConstants.{MAX_BUDGET}
use Rattle.command_words.specs.declared.limits.TheConstants.{MAX_SEED, MAX_EXTRA}
use Rattle.command_words.specs.declared.command.Command.{Command}
use Rattle.command_words.specs.declared.command.Command.TheVariants.{Solve, Session, Audit, Check, Explain, Clusters, Trial}
use Rattle.command_words.specs.declared.command.Key.{Key}
use Rattle.command_words.specs.declared.command.Key.TheVariants.{Stages, Tables, Arcs, Horizon, Ranges, Script, Plan, Cert, Seed, Size, Extra}
use Rattle.command_words.specs.declared.command.ValueKind.{ValueKind}
use Rattle.command_words.specs.declared.command.ValueKind.TheVariants.{FileName, WholeNumber}
use Rattle.command_words.specs.declared.file_word.FileWord.{FileWord}
use Rattle.command_words.specs.declared.file_word.FileWord.TheVariants as file

-- the commands
abbrev pub commands : List Command
commands = Solve ∷ Session ∷ Audit ∷ Check ∷ Explain ∷ Clusters ∷ Trial ∷ []

-- the word of a command
abbrev pub command_text : Command → List ℕ
command_text Solve = codes "solve"
command_text Session = codes "session"
command_text Audit = codes "audit"
command_text Check = codes "check"
command_text Explain = codes "explain"
command_text Clusters = codes "clusters"
command_text Trial = codes "trial"

-- the keys that a command requires, in their order
abbrev pub required_keys : Command → List Key
required_keys Solve = Stages ∷ Tables ∷ Arcs ∷ Horizon ∷ []
required_keys Session = Stages ∷ Tables ∷ Arcs ∷ Horizon ∷ Script ∷ []
required_keys Audit = Stages ∷ Tables ∷ Arcs ∷ Horizon ∷ Plan ∷ []
required_keys Check = Stages ∷ Tables ∷ Arcs ∷ Horizon ∷ Cert ∷ []
required_keys Explain = Stages ∷ Tables ∷ Arcs ∷ Horizon ∷ Cert ∷ []
required_keys Clusters = Stages ∷ Tables ∷ Arcs ∷ Horizon ∷ []
required_keys Trial = Seed ∷ Size ∷ Extra ∷ Horizon ∷ []

-- the further keys that a command takes
abbrev pub further_keys : Command → List Key
further_keys Solve = Ranges ∷ Cert ∷ []
further_keys Session = Ranges ∷ Cert ∷ []
further_keys Audit = []
further_keys Check = []
further_keys Explain = []
further_keys Clusters = []
further_keys Trial = Ranges ∷ []

-- the text of a key; the number of a trial's stages has that of the stage file
abbrev pub key_text : Key → List ℕ
key_text Stages = codes "stages"
key_text Tables = codes "tables"
key_text Arcs = codes "arcs"
key_text Horizon = codes "horizon"
key_text Ranges = codes "ranges"
key_text Script = codes "script"
key_text Plan = codes "plan"
key_text Cert = codes "cert"
key_text Seed = codes "seed"
key_text Size = codes "stages"
key_text Extra = codes "extra"

-- what a key's value may be
abbrev pub value_kind : Key → ValueKind
value_kind Stages = FileName
value_kind Tables = FileName
value_kind Arcs = FileName
value_kind Horizon = WholeNumber 0 MAX_HORIZON
value_kind Ranges = WholeNumber 1 MAX_BUDGET
value_kind Script = FileName
value_kind Plan = FileName
value_kind Cert = FileName
value_kind Seed = WholeNumber 0 MAX_SEED
value_kind Size = WholeNumber 1 MAX_STAGES
value_kind Extra = WholeNumber 0 MAX_EXTRA

-- the key of the word that names a file
abbrev pub file_key : FileWord → Key
file_key file.Stages = Stages
file_key file.Tables = Tables
file_key file.Arcs = Arcs
file_key file.Script = Script
file_key file.Plan = Plan
file_key file.Cert = Cert

-- a command reads the three files of a network
abbrev pub reads_network : Command → Bool
reads_network Solve = true
reads_network Session = true
reads_network Audit = true
reads_network Check = true
reads_network Explain = true
reads_network Clusters = true
reads_network Trial = false

-- the file that a command reads behind the three of its network, if there is one
abbrev pub further_file : Command → Option FileWord
further_file Solve = None
further_file Session = Some file.Script
further_file Audit = Some file.Plan
further_file Check = Some file.Cert
further_file Explain = Some file.Cert
further_file Clusters = None
further_file Trial = None

-- the word of the files that a command writes where its key is given, if it writes any
abbrev pub written_file : Command → Option FileWord
written_file Solve = Some file.Cert
written_file Session = Some file.Cert
written_file Audit = None
written_file Check = None
written_file Explain = None
written_file Clusters = None
written_file Trial = None

-- the command that a word names, if it is one
abbrev pub command_named : List ℕ → Option Command
command_named word = find (λ command. bytes_eq word (command_text command)) commands

-- a range of numbers that can be read
abbrev pub IsReadable : ValueKind → Type 0
IsReadable FileName = ⊤
IsReadable (WholeNumber least most) = (least ≤ most) × (most ≤ 10 ^ 18)
