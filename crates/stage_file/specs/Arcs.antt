-- The rules and the records of an arc file.
use Rattle.std.specs.Prelude.{◌≡◌, ◌≢◌, ℕ, ◌<◌, ◌≤◌, ◌||◌, ◌&&◌, Bool, nat_lt, nat_le, List, [], ◌∷◌, ◌++◌, length, take, map, codes, All, AllPairs, Option, unwrap_or, position, is_none}
use Rattle.std.specs.List.{list_any}
use Rattle.std.specs.Str.{bytes_eq}
use Rattle.service_model.specs.declared.limits.TheConstants.{MAX_ARCS}
use Rattle.service_model.specs.Search.{first_of, first_below}
use Rattle.stage_file.specs.declared.limits.TheConstants.{MAX_QUANTITY}
use Rattle.stage_file.specs.declared.rules.TheConstants.{FIELD_COUNT, NUMBER, RANGE, TOO_MANY, SUPPLIER, CUSTOMER, SELF_ARC, ARC_TWICE}
use Rattle.stage_file.specs.declared.fault.FileFault.{FileFault}
use Rattle.stage_file.specs.declared.fault.FileKind.TheVariants.{Arcs}
use Rattle.stage_file.specs.declared.arcs.ArcRow.{ArcRow}
use Rattle.stage_file.specs.declared.stages.StageRow.{StageRow}
use Rattle.stage_file.specs.Records.{Numbered, records_of, below_header, record_at, field_in}
use Rattle.stage_file.specs.Fields.{is_misread, is_past, number_or}
use Rattle.stage_file.specs.Faults.{fails_if, text_rule, header_fault}

-- the names of stages, in their order
abbrev pub names_of : List StageRow → List (List ℕ)
names_of stages = map (λ s. s.name) stages

-- the number of the stage with the name, if there is one
abbrev pub place_of : List (List ℕ) → List ℕ → Option ℕ
place_of names name = position (bytes_eq name) names

-- no stage has the name
unfoldable pub is_no_stage : List (List ℕ) → List ℕ → Bool
is_no_stage names name = is_none (place_of names name)

-- two arc records have the same supplier and customer
unfoldable pub has_ends : List (List ℕ) → Numbered → Bool
has_ends fields r = bytes_eq (field_in fields 1) (field_in r.fields 1) && bytes_eq (field_in fields 2) (field_in r.fields 2)

-- the rules on the fields of an arc record: they are text, not too few or too many, and the third may be a quantity
abbrev pub arc_field_rules : Numbered → List (Option FileFault)
arc_field_rules r =
    text_rule Arcs r
    ∷ fails_if Arcs r.number FIELD_COUNT 0 (nat_lt (length r.fields) 2 || nat_lt 3 (length r.fields))
    ∷ fails_if Arcs r.number NUMBER 3 (is_misread MAX_QUANTITY (field_in r.fields 3))
    ∷ fails_if Arcs r.number RANGE 3 (is_past MAX_QUANTITY (field_in r.fields 3))
    ∷ []

-- the rules on its ends and its place among the arcs, given the stages' names and the records between the header and it
abbrev pub arc_end_rules : List (List ℕ) → List Numbered → Numbered → List (Option FileFault)
arc_end_rules names earlier r =
    fails_if Arcs r.number TOO_MANY 0 (nat_le MAX_ARCS (length earlier))
    ∷ fails_if Arcs r.number SUPPLIER 1 (is_no_stage names (field_in r.fields 1))
    ∷ fails_if Arcs r.number CUSTOMER 2 (is_no_stage names (field_in r.fields 2))
    ∷ fails_if Arcs r.number SELF_ARC 2 (bytes_eq (field_in r.fields 1) (field_in r.fields 2))
    ∷ fails_if Arcs r.number ARC_TWICE 2 (list_any (has_ends r.fields) earlier)
    ∷ []

-- the rules on an arc record in their order
abbrev pub arc_rules : List (List ℕ) → List Numbered → Numbered → List (Option FileFault)
arc_rules names earlier r = arc_field_rules r ++ arc_end_rules names earlier r

-- the first rule that fails on record k behind the header
abbrev pub arc_fault_at : List (List ℕ) → List Numbered → ℕ → Option FileFault
arc_fault_at names records k = first_of (arc_rules names (take k records) (record_at records k))

-- the first rule that fails on an arc file: the header, and then each record
abbrev pub arc_file_fault : List (List ℕ) → List (List (List ℕ)) → Option FileFault
arc_file_fault names rows =
    let records = below_header (records_of rows) in
    first_of (
    header_fault Arcs (codes "supplier") (records_of rows)
    ∷ first_below (arc_fault_at names records) (length records)
    ∷ []
    )

-- the arc of a record, its blanks filled
unfoldable pub arc_row_of : List (List ℕ) → Numbered → ArcRow
arc_row_of names r = record {
  supplier = unwrap_or (place_of names (field_in r.fields 1)) 0;
  customer = unwrap_or (place_of names (field_in r.fields 2)) 0;
  quantity = number_or 1 MAX_QUANTITY (field_in r.fields 3);
  transit = 0;
  row = r.number;
}

-- the arcs of a file
abbrev pub arc_rows_of : List (List ℕ) → List (List (List ℕ)) → List ArcRow
arc_rows_of names rows = map (arc_row_of names) (below_header (records_of rows))

-- an arc joins two different stages of so many
pub record ArcRowWithin (stages : ℕ) (a : ArcRow) : Type 0 where
  pub supplier : a.supplier < stages
  pub customer : a.customer < stages
  pub apart : a.supplier ≢ a.customer
  pub quantity : a.quantity ≤ MAX_QUANTITY
  pub transit : a.transit ≡ 0

-- arcs as they are read: not too many, within their ranges, and no two with the same ends
pub record AreArcRows (stages : ℕ) (arcs : List ArcRow) : Type 0 where
  pub few : length arcs ≤ MAX_ARCS
  pub within : All (ArcRowWithin stages) arcs
  pub distinct : AllPairs (λ a b. (a.supplier ≡ b.supplier) × (a.customer ≡ b.customer) → ⊥) arcs
