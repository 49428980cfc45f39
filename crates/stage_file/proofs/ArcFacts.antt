-- Arc records on which the rules hold, and the names of stages.
use Rattle.std.proofs.Common.{◌≡◌, ℕ, ◌<◌, false, leb, List, length, take, get_or, None, Some, refl, sym, ◌∙◌}
use Rattle.std.proofs.lemmas.List.{take-map}
use Rattle.std.specs.List.{list_any}
use Rattle.std.specs.Str.{bytes_eq}
use Rattle.service_model.specs.Search.{first_of}
use Rattle.service_model.specs.declared.limits.TheConstants.{MAX_ARCS}
use Rattle.stage_file.specs.declared.ends.Ends.{Ends}
use Rattle.stage_file.specs.declared.fault.FileKind.TheVariants.{Arcs}
use Rattle.stage_file.specs.declared.record.Record.{Record}
use Rattle.stage_file.specs.declared.rules.TheConstants.{TOO_MANY, SUPPLIER, CUSTOMER, SELF_ARC, ARC_TWICE}
use Rattle.stage_file.specs.Records.{Numbered, field_in}
use Rattle.stage_file.specs.Seen.{seen_as, all_seen}
use Rattle.stage_file.specs.Arcs.{place_of, is_no_stage, has_ends, arc_rules, arc_fault_at, arc_row_of}
use Rattle.stage_file.specs.Ends.{has_same_ends, ends_in, ends_of, is_among, HaveEnds}
use Rattle.stage_file.proofs.EndFacts.{joined_found, twice_seen}
use Rattle.stage_file.proofs.FaultFacts.{first_of_none}
use Rattle.stage_file.proofs.LimitFacts.{passes}
use Rattle.stage_file.proofs.RecordFacts.{record_read}

-- what the rules say of an arc record on which they hold
pub record ArcHolds (names : List (List ℕ)) (earlier : List Numbered) (r : Numbered) : Type 0 where
  pub few : leb MAX_ARCS (length earlier) ≡ false
  pub supplier : is_no_stage names (field_in r.fields 1) ≡ false
  pub customer : is_no_stage names (field_in r.fields 2) ≡ false
  pub apart : bytes_eq (field_in r.fields 1) (field_in r.fields 2) ≡ false
  pub new : list_any (has_ends r.fields) earlier ≡ false

pub arc_holds : (names : List (List ℕ)) (earlier : List Numbered) (r : Numbered) → first_of (arc_rules names earlier r) ≡ None → ArcHolds names earlier r
arc_holds names earlier r none =
    let each = (first_of_none (arc_rules names earlier r) none).1.1.1.1 in
    record {
      few = passes Arcs r.number TOO_MANY 0 (leb MAX_ARCS (length earlier)) each.0;
      supplier = passes Arcs r.number SUPPLIER 1 (is_no_stage names (field_in r.fields 1)) each.1.0;
      customer = passes Arcs r.number CUSTOMER 2 (is_no_stage names (field_in r.fields 2)) each.1.1.0;
      apart = passes Arcs r.number SELF_ARC 2 (bytes_eq (field_in r.fields 1) (field_in r.fields 2)) each.1.1.1.0;
      new = passes Arcs r.number ARC_TWICE 2 (list_any (has_ends r.fields) earlier) each.1.1.1.1.0;
    }

-- its ends are stages
pub ends_found : (names : List (List ℕ)) (earlier : List Numbered) (r : Numbered) → ArcHolds names earlier r → ends_in names r.fields ≡ Some (ends_of (arc_row_of names r))
unfolding ends_in arc_row_of is_no_stage
ends_found names earlier r holds = joined_found (place_of names (field_in r.fields 1)) (place_of names (field_in r.fields 2)) holds.supplier holds.customer

-- and new
pub ends_new : (names : List (List ℕ)) (earlier : List Numbered) (r : Numbered) (all : List Ends) → HaveEnds names earlier all → ArcHolds names earlier r → list_any (has_same_ends (ends_of (arc_row_of names r))) all ≡ false
ends_new names earlier r all have holds =
    let seen : false ≡ is_among (ends_in names r.fields) all = sym holds.new ∙ twice_seen names r.fields earlier all have in
    sym (rw (ends_found names earlier r holds) at seen)

-- the rules on the record that was read at a place
pub arc_here : (names : List (List ℕ)) (records : List Record) (k : ℕ) (r : Record) → k < length records → r ≡ get_or records k r
    → arc_fault_at names (all_seen records) k ≡ first_of (arc_rules names (all_seen (take k records)) (seen_as r))
arc_here names records k r within at = rw (record_read records k r within at, take-map seen_as k records) refl
