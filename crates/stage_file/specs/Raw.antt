-- The three files of a network together.
use Rattle.std.specs.Prelude.{ℕ, [], ◌∷◌, length, Option}
use Rattle.service_model.specs.Search.{first_of}
use Rattle.stage_file.specs.declared.fault.FileFault.{FileFault}
use Rattle.stage_file.specs.declared.raw.Files.{Files}
use Rattle.stage_file.specs.declared.raw.RawNet.{RawNet}
use Rattle.stage_file.specs.Records.{AreCountable}
use Rattle.stage_file.specs.Stages.{stage_file_fault}
use Rattle.stage_file.specs.StageRecords.{stage_rows_of, AreStageRows}
use Rattle.stage_file.specs.Tables.{table_file_fault, table_rows_of, AreTableRows}
use Rattle.stage_file.specs.Arcs.{arc_file_fault, arc_rows_of, names_of, AreArcRows}

-- the first rule that fails: of the stage file, then of the table file, then of the arc file
abbrev pub raw_fault : ℕ → Files → Option FileFault
raw_fault horizon files =
    first_of (
    stage_file_fault horizon files.stages
    ∷ table_file_fault files.tables
    ∷ arc_file_fault (names_of (stage_rows_of horizon files.stages)) files.arcs
    ∷ []
    )

-- the records of the three files
abbrev pub raw_of : ℕ → Files → RawNet
raw_of horizon files = record {
  horizon = horizon;
  stages = stage_rows_of horizon files.stages;
  tables = table_rows_of files.tables;
  arcs = arc_rows_of (names_of (stage_rows_of horizon files.stages)) files.arcs;
}

-- the rows of the three files are few enough to be numbered
pub record AreFiles (files : Files) : Type 0 where
  pub stages : AreCountable files.stages
  pub tables : AreCountable files.tables
  pub arcs : AreCountable files.arcs

-- records as they are read
pub record IsRawNet (raw : RawNet) : Type 0 where
  pub stages : AreStageRows raw.horizon raw.stages
  pub tables : AreTableRows raw.tables
  pub arcs : AreArcRows (length raw.stages) raw.arcs
