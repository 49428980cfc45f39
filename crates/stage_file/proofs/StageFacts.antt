-- The rules on a stage record, where they hold and where it was read.
use Rattle.std.proofs.Common.{◌≡◌, ℕ, ◌<◌, false, List, length, take, get_or, None, refl}
use Rattle.std.proofs.lemmas.List.{take-map}
use Rattle.std.specs.List.{list_any}
use Rattle.service_model.specs.Search.{first_of}
use Rattle.stage_file.specs.declared.fault.FileKind.TheVariants.{Stages}
use Rattle.stage_file.specs.declared.record.Record.{Record}
use Rattle.stage_file.specs.declared.rules.TheConstants.{TWICE}
use Rattle.stage_file.specs.Names.{name_in}
use Rattle.stage_file.specs.Records.{Numbered}
use Rattle.stage_file.specs.Seen.{seen_as, all_seen}
use Rattle.stage_file.specs.Stages.{is_name_of, stage_place_rules, stage_rules, stage_fault_at}
use Rattle.stage_file.proofs.FaultFacts.{first_of_none}
use Rattle.stage_file.proofs.LimitFacts.{passes}
use Rattle.stage_file.proofs.RecordFacts.{record_read}

-- where the rules on its place hold, its name is new
pub holds_place : (horizon : ℕ) (earlier : List Numbered) (r : Numbered) → first_of (stage_place_rules horizon earlier r) ≡ None → list_any (is_name_of (name_in r)) earlier ≡ false
holds_place horizon earlier r none =
    passes Stages r.number TWICE 1 (list_any (is_name_of (name_in r)) earlier) (first_of_none (stage_place_rules horizon earlier r) none).1.0

-- the rules on the record that was read at a place
pub stage_here : (horizon : ℕ) (records : List Record) (k : ℕ) (r : Record) → k < length records → r ≡ get_or records k r
    → stage_fault_at horizon (all_seen records) k ≡ first_of (stage_rules horizon (all_seen (take k records)) (seen_as r))
stage_here horizon records k r within at = rw (record_read records k r within at, take-map seen_as k records) refl
