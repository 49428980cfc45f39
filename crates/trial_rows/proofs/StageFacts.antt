-- Each rule on the stage file of a trial holds.
use Rattle.std.proofs.Common.{◌≡◌, ℕ, ◌+◌, ◌^◌, ◌<◌, ◌≤◌, ◌==◌, nat_lt, nat_le, not, Bool, true, false, List, [], length, None, refl, arith}
use Rattle.std.specs.Prelude.{codes, decimal, if◌then◌else◌}
use Rattle.std.specs.List.{list_any}
use Rattle.std.proofs.lemmas.Bool.{and_right, le-ltb, lt-leb}
use Rattle.std.proofs.lemmas.List.Elements.{All-from_recursion}
use Rattle.service_model.specs.declared.limits.TheConstants.{MAX_TIME, MAX_STAGES}
use Rattle.service_model.specs.Search.{first_of}
use Rattle.stage_file.specs.declared.limits.TheConstants.{MAX_UNIT}
use Rattle.stage_file.specs.declared.rules.TheConstants.{FIELD_COUNT, NAME, NUMBER, RANGE, TOO_MANY, TWICE, LIMITS, PAST_HORIZON, BOUND}
use Rattle.stage_file.specs.declared.fault.FileKind.TheVariants.{Stages}
use Rattle.stage_file.specs.Rows.{is_blank, without_blank_end}
use Rattle.stage_file.specs.Records.{Numbered}
use Rattle.stage_file.specs.Seen.{record_of}
use Rattle.stage_file.specs.Fields.{is_no_text, is_bad_name, is_no_number, is_misread, is_past, number_or, is_bad_bound}
use Rattle.stage_file.specs.Faults.{text_rule}
use Rattle.stage_file.specs.Stages.{is_name_of, has_crossed_limits, stage_numbers, stage_ranges, stage_limits, stage_rules}
use Rattle.trial_rows.specs.declared.drawn.TrialStage.{TrialStage}
use Rattle.trial_rows.specs.Trials.{StageWithin, name_of, row_of_stage, stage_header}
use Rattle.trial_rows.proofs.NumberFacts.{decimal_not_blank, is_number, is_in_range, empty_is_read, empty_in_range, empty_number, zero_is_read, zero_in_range}
use Rattle.trial_rows.proofs.RowFacts.{IsFull}
use Rattle.trial_rows.proofs.RuleFacts.{first_none, holds, text_holds}
use Rattle.trial_rows.proofs.TextFacts.{decimal_text, empty_text, zero_text, name_text, name_allowed, bound_field, bound_text, bound_allowed}

-- the field of the greatest outbound time
abbrev pub most_field : Bool → List ℕ
most_field supplies = if supplies then [] else codes "0"

most_text : (supplies : Bool) → is_no_text (most_field supplies) ≡ false
most_text true = empty_text
most_text false = zero_text

most_is_read : (supplies : Bool) → is_misread MAX_TIME (most_field supplies) ≡ false
most_is_read true = empty_is_read MAX_TIME
most_is_read false = zero_is_read MAX_TIME

most_in_range : (supplies : Bool) → is_past MAX_TIME (most_field supplies) ≡ false
most_in_range true = empty_in_range MAX_TIME
most_in_range false = zero_in_range MAX_TIME

-- numbers of a stage that fit their columns
pub record Fits (horizon : ℕ) (s : TrialStage) : Type 0 where
  pub lead : s.lead ≤ MAX_TIME
  pub in_time : s.lead ≤ horizon
  pub factor : s.factor ≤ 100
  pub unit : s.unit ≤ 50

pub fits : (horizon : ℕ) (s : TrialStage) → StageWithin horizon s → Fits horizon s
fits horizon s within =
    let lead = within.lead in
    record { lead = omega arith; in_time = omega arith; factor = within.factor; unit = within.unit }

pub row_full : (j : ℕ) (s : TrialStage) (supplies : Bool) → s.unit ≤ 50 → IsFull (row_of_stage j s supplies)
unfolding without_blank_end
row_full j s supplies low =
    let last : is_blank (decimal s.unit) ≡ false = decimal_not_blank s.unit (omega arith) in
    record { some = omega arith; whole = rw last refl }

pub header_full : IsFull stage_header
unfolding without_blank_end
header_full = record { some = omega arith; whole = refl }

module _ (horizon j : ℕ) (s : TrialStage) (supplies : Bool) (few : j < 2 ^ 32) (in_range : Fits horizon s) where
  abbrev fields : List (List ℕ)
  fields = row_of_stage j s supplies

  abbrev the_record : Numbered
  the_record = record_of (2 + j) fields

  each_text : text_rule Stages the_record ≡ None
  each_text =
      let lead = in_range.lead in
      let factor = in_range.factor in
      let unit = in_range.unit in
      text_holds Stages (2 + j) fields (All-from_recursion (λ field. is_no_text field ≡ false) fields (
        name_text j few,
        (
          decimal_text s.lead (omega arith),
          (
            empty_text,
            (
              empty_text,
              (
                most_text supplies,
                (
                  bound_text s.factor (omega arith),
                  (
                    decimal_text s.unit (omega arith),
                    tt,
                  ),
                ),
              ),
            ),
          ),
        ),
      ))

  numbers_hold : first_of (stage_numbers the_record) ≡ None
  numbers_hold =
      let lead = in_range.lead in
      let unit = in_range.unit in
      first_none (stage_numbers the_record) (
        holds Stages (2 + j) NUMBER 2 (is_no_number MAX_TIME (decimal s.lead)) (is_number MAX_TIME s.lead lead (omega arith)),
        (
          holds Stages (2 + j) NUMBER 3 (is_misread MAX_TIME []) (empty_is_read MAX_TIME),
          (
            holds Stages (2 + j) NUMBER 4 (is_misread MAX_TIME []) (empty_is_read MAX_TIME),
            (
              holds Stages (2 + j) NUMBER 5 (is_misread MAX_TIME (most_field supplies)) (most_is_read supplies),
              (
                holds Stages (2 + j) NUMBER 7 (is_no_number MAX_UNIT (decimal s.unit)) (is_number MAX_UNIT s.unit (omega arith) (omega arith)),
                tt,
              ),
            ),
          ),
        ),
      )

  ranges_hold : first_of (stage_ranges the_record) ≡ None
  ranges_hold =
      let lead = in_range.lead in
      let unit = in_range.unit in
      first_none (stage_ranges the_record) (
        holds Stages (2 + j) RANGE 2 (is_past MAX_TIME (decimal s.lead)) (is_in_range MAX_TIME s.lead lead (omega arith)),
        (
          holds Stages (2 + j) RANGE 3 (is_past MAX_TIME []) (empty_in_range MAX_TIME),
          (
            holds Stages (2 + j) RANGE 4 (is_past MAX_TIME []) (empty_in_range MAX_TIME),
            (
              holds Stages (2 + j) RANGE 5 (is_past MAX_TIME (most_field supplies)) (most_in_range supplies),
              (
                holds Stages (2 + j) RANGE 7 (is_past MAX_UNIT (decimal s.unit)) (is_in_range MAX_UNIT s.unit (omega arith) (omega arith)),
                tt,
              ),
            ),
          ),
        ),
      )

  none_below : (n : ℕ) → nat_lt n (number_or 0 MAX_TIME []) ≡ false
  none_below n = le-ltb n (number_or 0 MAX_TIME []) (omega (arith, empty_number 0 MAX_TIME))

  not_crossed : has_crossed_limits fields ≡ false
  unfolding has_crossed_limits
  not_crossed = and_right (not (is_blank (most_field supplies))) (nat_lt (number_or 0 MAX_TIME (most_field supplies)) (number_or 0 MAX_TIME [])) (none_below (number_or 0 MAX_TIME (most_field supplies)))

  limits_hold : first_of (stage_limits horizon the_record) ≡ None
  limits_hold =
      first_none (stage_limits horizon the_record) (
        holds Stages (2 + j) LIMITS 4 (has_crossed_limits fields) not_crossed,
        (
          holds Stages (2 + j) PAST_HORIZON 3 (nat_lt horizon (number_or 0 MAX_TIME [])) (none_below horizon),
          (
            holds Stages (2 + j) PAST_HORIZON 4 (nat_lt horizon (number_or 0 MAX_TIME [])) (none_below horizon),
            tt,
          ),
        ),
      )

  -- the rules on a stage's record hold, where it is not too many and its name is new
  pub stage_holds : (earlier : List Numbered) → length earlier < MAX_STAGES → list_any (is_name_of (name_of j)) earlier ≡ false → first_of (stage_rules horizon earlier the_record) ≡ None
  stage_holds earlier some_left new =
      let factor = in_range.factor in
      first_none (stage_rules horizon earlier the_record) (
        each_text,
        (
          holds Stages (2 + j) FIELD_COUNT 0 (not (length fields == 7)) refl,
          (
            holds Stages (2 + j) NAME 1 (is_bad_name (name_of j)) (name_allowed j few),
            (
              numbers_hold,
              (
                ranges_hold,
                (
                  holds Stages (2 + j) TOO_MANY 0 (nat_le MAX_STAGES (length earlier)) (lt-leb MAX_STAGES (length earlier) some_left),
                  (
                    holds Stages (2 + j) TWICE 1 (list_any (is_name_of (name_of j)) earlier) new,
                    (
                      limits_hold,
                      (
                        holds Stages (2 + j) BOUND 6 (is_bad_bound (bound_field s.factor)) (bound_allowed s.factor (omega arith)),
                        tt,
                      ),
                    ),
                  ),
                ),
              ),
            ),
          ),
        ),
      )
