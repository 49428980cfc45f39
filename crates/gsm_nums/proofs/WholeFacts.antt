-- What each answer of `whole_of` says of the field, and when it comes.
use Rattle.std.proofs.Common.{◌≡◌, ℕ, ◌<◌, ◌≤◌, ◌⊎◌, List, length, true, false, Ok, Err, arith}
use Rattle.std.proofs.lemmas.Bool.Decides.{nat_tests}
use Rattle.std.specs.Char.{is_ascii_digit}
use Rattle.std.specs.List.{list_all}
use Rattle.gsm_nums.specs.Whole.{whole_of, number_of}
use Rattle.gsm_nums.specs.declared.whole.NumFault.TheVariants.{Empty, NotDigits, OutOfRange}

-- n is the number that a field shows in digits alone, and is within the range
pub record IsWhole (field : List ℕ) (least most n : ℕ) : Type 0 where
  pub some : 0 < length field
  pub digits : list_all is_ascii_digit field ≡ true
  pub value : n ≡ number_of field
  pub from : least ≤ n
  pub to : n ≤ most

-- a field shows a number in digits alone that is out of the range
pub record IsOutOfRange (field : List ℕ) (least most : ℕ) : Type 0 where
  pub some : 0 < length field
  pub digits : list_all is_ascii_digit field ≡ true
  pub outside : (number_of field < least) ⊎ (most < number_of field)

pub whole_of_ok : (field : List ℕ) (least most n : ℕ) → whole_of field least most ≡ Ok n → IsWhole field least most n
unfolding whole_of
whole_of_ok field least most n is = record {
  some = grind (arith, nat_tests);
  digits = grind (arith, nat_tests);
  value = grind (arith, nat_tests);
  from = grind (arith, nat_tests);
  to = grind (arith, nat_tests);
}

pub whole_of_empty : (field : List ℕ) (least most : ℕ) → whole_of field least most ≡ Err Empty → length field ≡ 0
unfolding whole_of
whole_of_empty field least most is = grind (arith, nat_tests)

pub whole_of_not_digits : (field : List ℕ) (least most : ℕ) → whole_of field least most ≡ Err NotDigits
    → (0 < length field) × (list_all is_ascii_digit field ≡ false)
unfolding whole_of
whole_of_not_digits field least most is = (grind (arith, nat_tests), grind (arith, nat_tests))

pub whole_of_out_of_range : (field : List ℕ) (least most : ℕ) → whole_of field least most ≡ Err OutOfRange → IsOutOfRange field least most
unfolding whole_of
whole_of_out_of_range field least most is = record {
  some = grind (arith, nat_tests);
  digits = grind (arith, nat_tests);
  outside = grind (arith, nat_tests);
}

-- and the other way round: when each answer comes
pub gives_ok : (field : List ℕ) (least most n : ℕ) → IsWhole field least most n → whole_of field least most ≡ Ok n
unfolding whole_of
gives_ok field least most n is = grind (arith, nat_tests)

pub gives_empty : (field : List ℕ) (least most : ℕ) → length field ≡ 0 → whole_of field least most ≡ Err Empty
unfolding whole_of
gives_empty field least most none = grind (arith, nat_tests)

pub gives_not_digits : (field : List ℕ) (least most : ℕ) → 0 < length field → list_all is_ascii_digit field ≡ false
    → whole_of field least most ≡ Err NotDigits
unfolding whole_of
gives_not_digits field least most some other = grind (arith, nat_tests)

pub gives_out_of_range : (field : List ℕ) (least most : ℕ) → IsOutOfRange field least most → whole_of field least most ≡ Err OutOfRange
unfolding whole_of
gives_out_of_range field least most is = grind (arith, nat_tests)
