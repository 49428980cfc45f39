-- The digits of a number are read back as the number.
use Rattle.std.proofs.Common.{◌≡◌, ℕ, ◌-◌, ◌^◌, ◌<◌, ◌≤◌, ◌==◌, true, false, List, [], ◌∷◌, length, take, get_or, Ok, Err, refl, sym, ap, ◌∙◌, arith, rules}
use Rattle.std.specs.Prelude.{codes, decimal}
use Rattle.std.specs.Char.{is_ascii_digit}
use Rattle.std.specs.List.{list_all, prefix_len, suffix_len}
use Rattle.std.proofs.lemmas.Bool.Decides.{nat_tests}
use Rattle.std.proofs.lemmas.Fmt.{decimal_digit, digits_decimal, digits_value-decimal, decimal_nonempty}
use Rattle.std.proofs.lemmas.List.{take_all}
use Rattle.std.proofs.lemmas.List.Sums.{AllPass-from_list_all, prefix_len_is, suffix_len_is}
use Rattle.std.proofs.lemmas.Str.Parse.{IsNumeralModel, numerals_by_weight}
use Rattle.gsm_nums.specs.Whole.{number_of, is_space, without_spaces, whole_of}
use Rattle.gsm_nums.specs.declared.whole.NumFault.TheVariants.{Empty}
use Rattle.gsm_nums.proofs.WholeFacts.{gives_ok}
use Rattle.stage_file.specs.Fields.{number_in, fails_as_number, fails_as_digits, fails_as_range, value_or, is_no_number, is_misread, is_past, number_or}
use Rattle.stage_file.specs.Rows.{is_blank}

-- the digits that a field is tested for, and the number that they write
digits_model : IsNumeralModel (λ ds. list_all is_ascii_digit ds ≡ true) number_of
digits_model = numerals_by_weight (λ ds. list_all is_ascii_digit ds ≡ true) (search rules) number_of (search rules)

pub are_digits : (n : ℕ) → n < 2 ^ 64 → list_all is_ascii_digit (decimal n) ≡ true
are_digits n small = digits_decimal digits_model n small

pub value_is : (n : ℕ) → n < 2 ^ 64 → number_of (decimal n) ≡ n
value_is n small = digits_value-decimal digits_model n small

no_space : (c : ℕ) → is_ascii_digit c ≡ true → (c == 32) ≡ false
no_space c digit = grind (arith, nat_tests)

-- digits have no spaces at their ends
pub no_spaces : (ds : List ℕ) → list_all is_ascii_digit ds ≡ true → without_spaces ds ≡ ds
unfolding without_spaces
no_spaces ds digits =
    let each = AllPass-from_list_all is_ascii_digit ds digits in
    let ahead : prefix_len is_space ds ≡ 0 = prefix_len_is is_space ds 0 0 (omega arith) (λ k l. absurd (omega arith)) (λ l. no_space (get_or ds 0 0) (each 0 0 l)) in
    let behind : suffix_len is_space ds ≡ length ds - length ds = suffix_len_is is_space ds (length ds) 0 (omega arith) (λ k low l. absurd (omega arith)) (λ l. no_space (get_or ds (length ds - 1) 0) (each (length ds - 1) 0 (omega arith))) in
    let all : take (length ds - suffix_len is_space ds) ds ≡ ds = take_all (length ds - suffix_len is_space ds) ds (omega (arith, behind)) in
    rw ahead all

-- and are not blank
pub not_blank : (ds : List ℕ) → 0 < length ds → list_all is_ascii_digit ds ≡ true → is_blank ds ≡ false
not_blank [] some digits = absurd (omega arith)
not_blank (c ∷ ds) some digits =
    let first : is_ascii_digit c ≡ true = AllPass-from_list_all is_ascii_digit (c ∷ ds) digits 0 0 (omega arith) in
    rw (no_space c first) refl

pub decimal_not_blank : (n : ℕ) → n < 2 ^ 64 → is_blank (decimal n) ≡ false
decimal_not_blank n small = not_blank (decimal n) (decimal_nonempty n small) (are_digits n small)

-- a number in its range is read back
pub read_back : (most n : ℕ) → n ≤ most → n < 2 ^ 64 → number_in most (decimal n) ≡ Ok n
read_back most n low small =
    ap (λ (field : List ℕ). whole_of field 0 most) (no_spaces (decimal n) (are_digits n small))
    ∙ gives_ok (decimal n) 0 most n (record {
      some = decimal_nonempty n small;
      digits = are_digits n small;
      value = sym (value_is n small);
      from = omega arith;
      to = low;
    })

pub is_number : (most n : ℕ) → n ≤ most → n < 2 ^ 64 → is_no_number most (decimal n) ≡ false
unfolding is_no_number
is_number most n low small = ap fails_as_number (read_back most n low small)

pub is_in_range : (most n : ℕ) → n ≤ most → n < 2 ^ 64 → is_past most (decimal n) ≡ false
unfolding is_past
is_in_range most n low small = ap fails_as_range (read_back most n low small)

pub number_is : (blank most n : ℕ) → n ≤ most → n < 2 ^ 64 → number_or blank most (decimal n) ≡ n
unfolding number_or
number_is blank most n low small = ap (value_or blank) (read_back most n low small)

-- an empty field is a blank
empty_in : (most : ℕ) → number_in most [] ≡ Err Empty
unfolding without_spaces whole_of
empty_in most = refl

pub empty_is_read : (most : ℕ) → is_misread most [] ≡ false
unfolding is_misread
empty_is_read most = ap fails_as_digits (empty_in most)

pub empty_in_range : (most : ℕ) → is_past most [] ≡ false
unfolding is_past
empty_in_range most = ap fails_as_range (empty_in most)

pub empty_number : (blank most : ℕ) → number_or blank most [] ≡ blank
unfolding number_or
empty_number blank most = ap (value_or blank) (empty_in most)

-- so is 0
zero_in : (most : ℕ) → number_in most (codes "0") ≡ Ok 0
zero_in most = ap (number_in most) (sym (decimal_digit 0 (omega arith))) ∙ read_back most 0 (omega arith) (omega arith)

pub zero_is_read : (most : ℕ) → is_misread most (codes "0") ≡ false
unfolding is_misread
zero_is_read most = ap fails_as_digits (zero_in most)

pub zero_in_range : (most : ℕ) → is_past most (codes "0") ≡ false
unfolding is_past
zero_in_range most = ap fails_as_range (zero_in most)

-- and 1, where it is in the range
one_in : (most : ℕ) → 1 ≤ most → number_in most (codes "1") ≡ Ok 1
one_in most low = ap (number_in most) (sym (decimal_digit 1 (omega arith))) ∙ read_back most 1 low (omega arith)

pub one_is_read : (most : ℕ) → 1 ≤ most → is_misread most (codes "1") ≡ false
unfolding is_misread
one_is_read most low = ap fails_as_digits (one_in most low)

pub one_in_range : (most : ℕ) → 1 ≤ most → is_past most (codes "1") ≡ false
unfolding is_past
one_in_range most low = ap fails_as_range (one_in most low)

pub one_is : (blank most : ℕ) → 1 ≤ most → number_or blank most (codes "1") ≡ 1
unfolding number_or
one_is blank most low = ap (value_or blank) (one_in most low)
