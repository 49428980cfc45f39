-- The first rule that fails on files: those of each file, and then those on their records together.
use Rattle.std.specs.Prelude.{◌≡◌, ℕ, length, Option, Some, None, MatchOption, Result, Ok, Err, ⊤}
use Rattle.service_model.specs.Walks.{IsFirstOnCycle}
use Rattle.stage_file.specs.declared.raw.Files.{Files}
use Rattle.stage_file.specs.declared.raw.RawNet.{RawNet}
use Rattle.stage_file.specs.declared.fault.FileFault.{FileFault}
use Rattle.stage_file.specs.declared.fault.FileKind.TheVariants.{Stages}
use Rattle.stage_file.specs.declared.fault.ReadFault.{ReadFault}
use Rattle.stage_file.specs.declared.fault.ReadFault.TheVariants.{Fault, NoMemory}
use Rattle.stage_file.specs.declared.rules.TheConstants.{CYCLE}
use Rattle.stage_file.specs.Faults.{fault_of}
use Rattle.stage_file.specs.Raw.{raw_fault, raw_of}
use Rattle.demand_tables.specs.Demand.{row_at}
use Rattle.demand_tables.specs.DemandFaults.{IsDemandFault}
use Rattle.network_check.specs.declared.checked.Checked.{Checked}
use Rattle.network_check.specs.Checked.{supply_arcs, IsNetworkOf, IsChecked}

-- the rule on cycles at a stage
abbrev pub cycle_fault : RawNet → ℕ → FileFault
cycle_fault raw j = fault_of Stages (row_at raw j).row CYCLE 1

-- the first rule that fails on records together: a stage reaches itself along arcs, then those on bounds and excess demands
abbrev pub IsFirstTogether : RawNet → Option FileFault → Type 0
IsFirstTogether raw fault =
    (first : Option ℕ) × IsFirstOnCycle (length raw.stages) (supply_arcs raw) first
    × MatchOption first (IsDemandFault raw fault) (λ j. fault ≡ Some (cycle_fault raw j))

-- the first rule that fails on files under a horizon: those of each file, and then those on their records together
abbrev pub IsFirstRefusal : ℕ → Files → Option FileFault → Type 0
IsFirstRefusal horizon files fault =
    MatchOption (raw_fault horizon files) (IsFirstTogether (raw_of horizon files) fault) (λ f. fault ≡ Some f)

-- what making the network of records gives: it, where all rules on them together hold, or the first that fails
abbrev pub RecordsCase : RawNet → Result Checked ReadFault → Type 0
RecordsCase raw (Ok c) = IsFirstTogether raw None × IsNetworkOf raw c × IsChecked c
RecordsCase raw (Err (Fault f)) = IsFirstTogether raw (Some f)
RecordsCase raw (Err NoMemory) = ⊤

-- what making the network of files gives: it, where no rule fails, or the first that does
abbrev pub FilesCase : ℕ → Files → Result Checked ReadFault → Type 0
FilesCase horizon files (Ok c) = IsFirstRefusal horizon files None × IsNetworkOf (raw_of horizon files) c × IsChecked c
FilesCase horizon files (Err (Fault f)) = IsFirstRefusal horizon files (Some f)
FilesCase horizon files (Err NoMemory) = ⊤
