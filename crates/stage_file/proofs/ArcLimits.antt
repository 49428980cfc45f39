-- Arcs that are read are within their limits.
use Rattle.std.proofs.Common.{◌≡◌, ℕ, ◌<◌, false, true, List, [], ◌∷◌, length, map, take, get_or, Option, None, Some, is_none, unwrap_or, Result, Ok, Err, AllPairs, refl, sym, arith}
use Rattle.std.specs.Prelude.{codes, IfOk}
use Rattle.std.proofs.lemmas.List.{length-map, length-take, get_or-take, get_or-map}
use Rattle.std.proofs.lemmas.List.Elements.{All-map, All-from_get_or}
use Rattle.std.proofs.lemmas.List.Folds.{list_any_at}
use Rattle.std.proofs.lemmas.List.Quantifiers.{position-Some}
use Rattle.std.proofs.lemmas.Slice.Eq.{bytes_eq-Decides}
use Rattle.std.specs.Str.{bytes_eq}
use Rattle.service_model.specs.declared.limits.TheConstants.{MAX_ARCS}
use Rattle.service_model.specs.Search.{first_below}
use Rattle.stage_file.specs.declared.arcs.ArcRow.{ArcRow}
use Rattle.stage_file.specs.declared.fault.FileKind.TheVariants.{Arcs}
use Rattle.stage_file.specs.declared.fault.ReadFault.{ReadFault}
use Rattle.stage_file.specs.declared.limits.TheConstants.{MAX_QUANTITY}
use Rattle.stage_file.specs.Faults.{Reads, header_fault}
use Rattle.stage_file.specs.Records.{Numbered, records_of, below_header, record_at, field_in, no_record}
use Rattle.stage_file.specs.Arcs.{place_of, is_no_stage, has_ends, arc_fault_at, arc_file_fault, arc_row_of, arc_rows_of, ArcRowWithin, AreArcRows}
use Rattle.stage_file.proofs.ArcFacts.{ArcHolds, arc_holds}
use Rattle.stage_file.proofs.EndFacts.{equal_names}
use Rattle.stage_file.proofs.FaultFacts.{first_of_none, none_below}
use Rattle.stage_file.proofs.LimitFacts.{number_le, few_records}

is_there : (o : Option ℕ) → is_none o ≡ false → o ≡ Some (unwrap_or o 0)
is_there None found = cc
is_there (Some k) found = refl

stage_at : (names : List (List ℕ)) (name : List ℕ) → is_no_stage names name ≡ false → place_of names name ≡ Some (unwrap_or (place_of names name) 0)
unfolding is_no_stage
stage_at names name found = is_there (place_of names name) found

stage_within : (names : List (List ℕ)) (name : List ℕ) → is_no_stage names name ≡ false → unwrap_or (place_of names name) 0 < length names
stage_within names name found = (position-Some (bytes_eq name) names (unwrap_or (place_of names name) 0) [] (stage_at names name found)).0

-- two names of one stage are equal
same_stage : (names : List (List ℕ)) (f g : List ℕ) → is_no_stage names f ≡ false → is_no_stage names g ≡ false → unwrap_or (place_of names f) 0 ≡ unwrap_or (place_of names g) 0 → bytes_eq f g ≡ true
same_stage names f g here there same =
    (bytes_eq-Decides f g).1 (equal_names names f g (unwrap_or (place_of names f) 0) (unwrap_or (place_of names g) 0) (stage_at names f here) (stage_at names g there) same)

-- a record on which the rules hold is an arc within its limits
arc_within : (names : List (List ℕ)) (earlier : List Numbered) (r : Numbered) → ArcHolds names earlier r → ArcRowWithin (length names) (arc_row_of names r)
unfolding arc_row_of
arc_within names earlier r holds =
    record {
      supplier = stage_within names (field_in r.fields 1) holds.supplier;
      customer = stage_within names (field_in r.fields 2) holds.customer;
      apart = λ same. (let equal = same_stage names (field_in r.fields 1) (field_in r.fields 2) holds.supplier holds.customer same in let apart = holds.apart in cc);
      quantity = number_le 1 MAX_QUANTITY (field_in r.fields 3) (omega arith);
      transit = refl;
    }

-- two records whose arcs have the same ends have the same ends
ends_again : (names : List (List ℕ)) (a b : Numbered) (before after : List Numbered) → ArcHolds names before a → ArcHolds names after b
    → (arc_row_of names a).supplier ≡ (arc_row_of names b).supplier → (arc_row_of names a).customer ≡ (arc_row_of names b).customer → has_ends b.fields a ≡ true
unfolding arc_row_of has_ends
ends_again names a b before after first second suppliers customers =
    rw (same_stage names (field_in b.fields 1) (field_in a.fields 1) second.supplier first.supplier (sym suppliers), same_stage names (field_in b.fields 2) (field_in a.fields 2) second.customer first.customer (sym customers)) refl

-- the rules on each record hold
abbrev Hold : List (List ℕ) → List Numbered → Type 0
Hold names records = (k : ℕ) → k < length records → ArcHolds names (take k records) (record_at records k)

distinct_arcs : (names : List (List ℕ)) (records : List Numbered) → Hold names records
    → AllPairs (λ a b. (a.supplier ≡ b.supplier) × (a.customer ≡ b.customer) → ⊥) (map (arc_row_of names) records)
distinct_arcs names records hold i j d before within same =
    let here : j < length records = omega (arith, length-map records (arc_row_of names)) in
    let a = record_at records i in
    let b = record_at records j in
    let first = get_or-map (arc_row_of names) records i no_record d (omega arith) in
    let second = get_or-map (arc_row_of names) records j no_record d here in
    let suppliers : (arc_row_of names a).supplier ≡ (arc_row_of names b).supplier = rw (← first, ← second) same.0 in
    let customers : (arc_row_of names a).customer ≡ (arc_row_of names b).customer = rw (← first, ← second) same.1 in
    let again = ends_again names a b (take i records) (take j records) (hold i (omega arith)) (hold j here) suppliers customers in
    let there : get_or (take j records) i no_record ≡ a = get_or-take j records i no_record before in
    let found = list_any_at (has_ends b.fields) (take j records) i no_record (omega (arith, length-take j records)) (rw there again) in
    let none = (hold j here).new in
    cc

arcs_within : (names : List (List ℕ)) (records : List Numbered) → Hold names records → AreArcRows (length names) (map (arc_row_of names) records)
arcs_within names records hold =
    let few = few_records records MAX_ARCS (λ k l. (hold k l).few) in
    record {
      few = omega (arith, length-map records (arc_row_of names), few);
      within = All-map (ArcRowWithin (length names)) (arc_row_of names) records
          (All-from_get_or (λ r. ArcRowWithin (length names) (arc_row_of names r)) records no_record (λ k l. arc_within names (take k records) (record_at records k) (hold k l)));
      distinct = distinct_arcs names records hold;
    }

-- the arcs of a file on which the rules hold
rows_within : (names : List (List ℕ)) (rows : List (List (List ℕ))) → arc_file_fault names rows ≡ None → AreArcRows (length names) (arc_rows_of names rows)
rows_within names rows none =
    let records = below_header (records_of rows) in
    let each = first_of_none (header_fault Arcs (codes "supplier") (records_of rows) ∷ first_below (arc_fault_at names records) (length records) ∷ []) none in
    let below = none_below (arc_fault_at names records) (length records) each.1.0 in
    arcs_within names records (λ k l. arc_holds names (take k records) (record_at records k) (below k l))

pub read_within : (names : List (List ℕ)) (rows : List (List (List ℕ))) (result : Result (List ArcRow) ReadFault) → Reads (arc_file_fault names rows) (arc_rows_of names rows) result → IfOk result (AreArcRows (length names))
read_within names rows (Ok read) reads = rw reads.1 (rows_within names rows reads.0)
read_within names rows (Err e) reads = tt
