-- How far the files of a session may grow.
use Rattle.std.specs.Prelude.{ℕ, ◌+◌, ◌*◌, ◌<◌, ◌^◌, List, length}
use Rattle.stage_file.specs.declared.raw.Files.{Files}

-- two rows more for each of so many edits can be numbered
abbrev pub MayGrowBy : List (List (List ℕ)) → ℕ → Type 0
MayGrowBy rows edits = length rows + 2 * edits < 2 ^ 32

-- so they can in each of the three files
pub record MayGrow (files : Files) (edits : ℕ) : Type 0 where
  pub stages : MayGrowBy files.stages edits
  pub tables : MayGrowBy files.tables edits
  pub arcs : MayGrowBy files.arcs edits
