-- The names of the files that a command writes.
use Rattle.std.specs.Prelude.{ℕ, nat_eq, Bool, List, ◌++◌, codes, decimal, bytes_eq}
use Rattle.std.specs.List.{starts_with}
use Rattle.command_words.specs.declared.command.Command.{Command}
use Rattle.command_words.specs.declared.command.Command.TheVariants.{Solve, Session, Audit, Check, Explain, Clusters, Trial}
use Rattle.command_words.specs.declared.file_word.Naming.{Naming}
use Rattle.command_words.specs.declared.file_word.Naming.TheVariants.{Whole, Numbered}

-- how a command names the files that it writes
abbrev pub naming : Command → Naming
naming Solve = Whole
naming Session = Numbered
naming Audit = Whole
naming Check = Whole
naming Explain = Whole
naming Clusters = Whole
naming Trial = Whole

-- the name of the file of answer k, from 1 on, under the name that the words give
abbrev pub answer_name : Naming → List ℕ → ℕ → List ℕ
answer_name Whole name k = name
answer_name Numbered name k = name ++ codes "-" ++ decimal k

-- a file's name is kept for what is written under a name: it is that name, or where files are numbered it begins with that name and a dash
unfoldable pub is_kept : Naming → List ℕ → List ℕ → Bool
is_kept Whole name file = bytes_eq file name
is_kept Numbered name file = starts_with nat_eq file (name ++ codes "-")
