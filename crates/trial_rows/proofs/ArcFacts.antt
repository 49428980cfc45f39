-- No rule on the arc file of a trial fails, and what its records are.
use Rattle.std.proofs.Common.{◌≡◌, ◌≢◌, ℕ, ◌+◌, ◌^◌, ◌<◌, ◌||◌, ◌&&◌, nat_lt, nat_le, false, List, [], ◌∷◌, length, take, get_or, map, All, Some, None, refl, sym, ap, ◌∙◌, subst, arith}
use Rattle.std.specs.Prelude.{codes}
use Rattle.std.specs.List.{list_any}
use Rattle.std.specs.Str.{bytes_eq}
use Rattle.std.proofs.lemmas.Bool.{lt-leb, false_from_ne_true, and_parts}
use Rattle.std.proofs.lemmas.List.{length-map, length-take, get_or-take, get_or-map}
use Rattle.std.proofs.lemmas.List.Elements.{All-map, All-from_recursion, All-from_get_or}
use Rattle.std.proofs.lemmas.List.Folds.{list_any_none}
use Rattle.service_model.specs.declared.limits.TheConstants.{MAX_ARCS}
use Rattle.service_model.specs.Search.{first_of, first_below}
use Rattle.service_model.proofs.SearchFacts.{below_none}
use Rattle.stage_file.specs.declared.arcs.ArcRow.{ArcRow}
use Rattle.stage_file.specs.declared.limits.TheConstants.{MAX_QUANTITY}
use Rattle.stage_file.specs.declared.rules.TheConstants.{FIELD_COUNT, NUMBER, RANGE, TOO_MANY, SUPPLIER, CUSTOMER, SELF_ARC, ARC_TWICE}
use Rattle.stage_file.specs.declared.fault.FileKind.TheVariants.{Arcs}
use Rattle.stage_file.specs.Rows.{without_blank_end}
use Rattle.stage_file.specs.Records.{Numbered, no_record, records_of, record_at, numbered}
use Rattle.stage_file.specs.Seen.{record_of}
use Rattle.stage_file.specs.Fields.{is_no_text, is_misread, is_past}
use Rattle.stage_file.specs.Faults.{header_fault}
use Rattle.stage_file.specs.Arcs.{place_of, is_no_stage, has_ends, arc_rules, arc_fault_at, arc_file_fault, arc_row_of, arc_rows_of}
use Rattle.trial_rows.specs.declared.drawn.TrialStage.{TrialStage}
use Rattle.trial_rows.specs.declared.drawn.TrialArc.{TrialArc}
use Rattle.trial_rows.specs.Trials.{ArcWithin, IsTrial, name_of, arc_row, arc_header}
use Rattle.trial_rows.proofs.BeforeFacts.{before_apart}
use Rattle.trial_rows.proofs.NumberFacts.{one_is_read, one_in_range}
use Rattle.trial_rows.proofs.RowFacts.{IsFull, below_is, header_is, length_numbered, numbered_at}
use Rattle.trial_rows.proofs.RuleFacts.{first_none, holds, text_holds, header_holds}
use Rattle.trial_rows.proofs.TextFacts.{word_texts, one_text, name_text, names_apart, one_name}

-- what stands for an arc that there is not
abbrev pub no_arc : TrialArc
no_arc = record { supplier = 0; customer = 0 }

-- arc a of a trial
abbrev pub arc_of : List TrialArc → ℕ → TrialArc
arc_of arcs a = get_or arcs a no_arc

-- what the records of an arc file say of an arc
pub record IsRowOfArc (a : TrialArc) (row : ArcRow) : Type 0 where
  pub supplier : row.supplier ≡ a.supplier
  pub customer : row.customer ≡ a.customer
  pub transit : row.transit ≡ 0

arc_full : (a : TrialArc) → IsFull (arc_row a)
unfolding without_blank_end
arc_full a = record { some = omega arith; whole = refl }

header_full : IsFull arc_header
unfolding without_blank_end
header_full = record { some = omega arith; whole = refl }

found : (names : List (List ℕ)) (name : List ℕ) (j : ℕ) → place_of names name ≡ Some j → is_no_stage names name ≡ false
unfolding is_no_stage
found names name j is = rw is refl

-- the ends of an arc, found by their names
pub record EndsFound (names : List (List ℕ)) (a : TrialArc) : Type 0 where
  pub supplier : place_of names (name_of a.supplier) ≡ Some a.supplier
  pub customer : place_of names (name_of a.customer) ≡ Some a.customer

row_is : (names : List (List ℕ)) (k : ℕ) (a : TrialArc) → EndsFound names a → IsRowOfArc a (arc_row_of names (record_of k (arc_row a)))
unfolding arc_row_of
row_is names k a ends = record { supplier = rw ends.supplier refl; customer = rw ends.customer refl; transit = refl }

-- the rules on an arc's record hold, where it is not too many and new
arc_holds : (names : List (List ℕ)) (k : ℕ) (a : TrialArc) (earlier : List Numbered) → EndsFound names a → a.supplier < 2 ^ 32 → a.customer < 2 ^ 32 → a.supplier ≢ a.customer → length earlier < MAX_ARCS
    → list_any (has_ends (arc_row a)) earlier ≡ false → first_of (arc_rules names earlier (record_of k (arc_row a))) ≡ None
arc_holds names k a earlier ends low high apart left new =
    first_none (arc_rules names earlier (record_of k (arc_row a))) (
      text_holds Arcs k (arc_row a) (All-from_recursion (λ field. is_no_text field ≡ false) (arc_row a) (name_text a.supplier low, (name_text a.customer high, (one_text, tt)))),
      (
        holds Arcs k FIELD_COUNT 0 (nat_lt (length (arc_row a)) 2 || nat_lt 3 (length (arc_row a))) refl,
        (
          holds Arcs k NUMBER 3 (is_misread MAX_QUANTITY (codes "1")) (one_is_read MAX_QUANTITY (omega arith)),
          (
            holds Arcs k RANGE 3 (is_past MAX_QUANTITY (codes "1")) (one_in_range MAX_QUANTITY (omega arith)),
            (
              holds Arcs k TOO_MANY 0 (nat_le MAX_ARCS (length earlier)) (lt-leb MAX_ARCS (length earlier) left),
              (
                holds Arcs k SUPPLIER 1 (is_no_stage names (name_of a.supplier)) (found names (name_of a.supplier) a.supplier ends.supplier),
                (
                  holds Arcs k CUSTOMER 2 (is_no_stage names (name_of a.customer)) (found names (name_of a.customer) a.customer ends.customer),
                  (
                    holds Arcs k SELF_ARC 2 (bytes_eq (name_of a.supplier) (name_of a.customer)) (names_apart a.supplier a.customer low high apart),
                    (
                      holds Arcs k ARC_TWICE 2 (list_any (has_ends (arc_row a)) earlier) new,
                      tt,
                    ),
                  ),
                ),
              ),
            ),
          ),
        ),
      ),
    )

abbrev made : ℕ → ℕ → TrialArc
made supplier customer = record { supplier = supplier; customer = customer }

same_arc : (a b : TrialArc) → a.supplier ≡ b.supplier → a.customer ≡ b.customer → b ≡ a
same_arc a b supplier customer = ap (λ (s : ℕ). made s b.customer) (sym supplier) ∙ ap (λ (c : ℕ). made a.supplier c) (sym customer)

-- two different arcs have different ends
ends_apart : (a b : TrialArc) → a.supplier < 2 ^ 32 → a.customer < 2 ^ 32 → b.supplier < 2 ^ 32 → b.customer < 2 ^ 32 → b ≢ a → (n : ℕ) → has_ends (arc_row a) (record_of n (arc_row b)) ≡ false
unfolding has_ends
ends_apart a b al ah bl bh apart n =
    false_from_ne_true (bytes_eq (name_of a.supplier) (name_of b.supplier) && bytes_eq (name_of a.customer) (name_of b.customer)) (λ is.
    let both = and_parts (bytes_eq (name_of a.supplier) (name_of b.supplier)) (bytes_eq (name_of a.customer) (name_of b.customer)) is in
    let supplier : a.supplier ≡ b.supplier = one_name a.supplier b.supplier al bl both.0 in
    let customer : a.customer ≡ b.customer = one_name a.customer b.customer ah bh both.1 in
    apart (same_arc a b supplier customer))

module _ (horizon : ℕ) (stages : List TrialStage) (arcs : List TrialArc) (names : List (List ℕ)) (trial : IsTrial horizon stages arcs)
    (places : (j : ℕ) → j < length stages → place_of names (name_of j) ≡ Some j) where
  abbrev rows : List (List (List ℕ))
  rows = map arc_row arcs

  abbrev records : List Numbered
  records = numbered 2 rows

  long : length rows ≡ length arcs
  long = length-map arcs arc_row

  row_at : (k : ℕ) → k < length arcs → get_or rows k [] ≡ arc_row (arc_of arcs k)
  row_at k inside = get_or-map arc_row arcs k no_arc [] inside

  all_full : All IsFull rows
  all_full = All-map IsFull arc_row arcs (λ k d inside. arc_full (get_or arcs k d))

  arc_count : length records ≡ length arcs
  arc_count = length_numbered 2 rows all_full ∙ long

  record_is : (k : ℕ) → k < length arcs → record_at records k ≡ record_of (2 + k) (arc_row (arc_of arcs k))
  record_is k inside = numbered_at 2 rows k all_full (omega (arith, inside, long)) ∙ ap (λ (row : List (List ℕ)). record_of (2 + k) row) (row_at k inside)

  within : (k : ℕ) → k < length arcs → ArcWithin stages (arc_of arcs k)
  within k inside = trial.arcs_within k no_arc inside

  ends : (k : ℕ) → k < length arcs → EndsFound names (arc_of arcs k)
  ends k inside =
      let is = within k inside in
      record { supplier = places (arc_of arcs k).supplier is.supplier; customer = places (arc_of arcs k).customer is.customer }

  low : (k : ℕ) → k < length arcs → ((arc_of arcs k).supplier < 2 ^ 32) × ((arc_of arcs k).customer < 2 ^ 32)
  low k inside =
      let is = within k inside in
      (omega (arith, is.supplier, trial.few), omega (arith, is.customer, trial.few))

  new_ends : (k : ℕ) → k < length arcs → list_any (has_ends (arc_row (arc_of arcs k))) (take k records) ≡ false
  new_ends k inside =
      list_any_none (has_ends (arc_row (arc_of arcs k))) (take k records) (
      All-from_get_or (λ r. has_ends (arc_row (arc_of arcs k)) r ≡ false) (take k records) no_record (λ i below.
      let less : i < k = omega (arith, below, length-take k records) in
      let there_is : i < length arcs = omega (arith, less, inside) in
      let there : get_or (take k records) i no_record ≡ record_of (2 + i) (arc_row (arc_of arcs i)) = get_or-take k records i no_record less ∙ record_is i there_is in
      let a = low k inside in
      let b = low i there_is in
      subst (λ (r : Numbered). has_ends (arc_row (arc_of arcs k)) r ≡ false) (sym there)
      (ends_apart (arc_of arcs k) (arc_of arcs i) a.0 a.1 b.0 b.1 (trial.once i k no_arc less inside) (2 + i))))

  each_holds : (k : ℕ) → k < length records → arc_fault_at names records k ≡ None
  each_holds k inside =
      let there : k < length arcs = omega (arith, inside, arc_count) in
      let before : length (take k records) < MAX_ARCS = omega (arith, length-take k records, inside, arc_count, trial.few_arcs) in
      let apart = before_apart stages (arc_of arcs k).supplier (arc_of arcs k).customer (within k there).before in
      let hold = arc_holds names (2 + k) (arc_of arcs k) (take k records) (ends k there) (low k there).0 (low k there).1 apart before (new_ends k there) in
      ap (λ (r : Numbered). first_of (arc_rules names (take k records) r)) (record_is k there) ∙ hold

  -- no rule on the arc file fails
  pub arc_file_holds : arc_file_fault names (arc_header ∷ rows) ≡ None
  arc_file_holds =
      let header : header_fault Arcs (codes "supplier") (records_of (arc_header ∷ rows)) ≡ None = header_is Arcs (codes "supplier") arc_header rows header_full ∙ header_holds Arcs (codes "supplier") 1 arc_header (word_texts arc_header refl) refl in
      rw (below_is arc_header rows header_full) (first_none (header_fault Arcs (codes "supplier") (records_of (arc_header ∷ rows)) ∷ first_below (arc_fault_at names records) (length records) ∷ []) (
        header,
        (
          below_none (arc_fault_at names records) (length records) each_holds,
          tt,
        ),
      ))

  -- the arcs that are read
  pub read_arc_count : length (arc_rows_of names (arc_header ∷ rows)) ≡ length arcs
  read_arc_count = rw (below_is arc_header rows header_full) (length-map records (arc_row_of names) ∙ arc_count)

  pub read_arc : (k : ℕ) (d : ArcRow) → k < length arcs → IsRowOfArc (arc_of arcs k) (get_or (arc_rows_of names (arc_header ∷ rows)) k d)
  read_arc k d inside =
      let at : get_or (map (arc_row_of names) records) k d ≡ arc_row_of names (record_of (2 + k) (arc_row (arc_of arcs k))) =
      get_or-map (arc_row_of names) records k no_record d (omega (arith, inside, arc_count)) ∙ ap (arc_row_of names) (record_is k inside) in
      let one : IsRowOfArc (arc_of arcs k) (get_or (map (arc_row_of names) records) k d) = subst (λ (row : ArcRow). IsRowOfArc (arc_of arcs k) row) (sym at) (row_is names (2 + k) (arc_of arcs k) (ends k inside)) in
      rw (below_is arc_header rows header_full) one
