-- Tests of one field, and the values of fields.
use Rattle.std.specs.Prelude.{ℕ, ◌==◌, ◌||◌, ◌&&◌, Bool, true, false, not, nat_eq, nat_lt, List, length, drop, codes, Result, Ok, Err}
use Rattle.std.specs.List.{starts_with}
use Rattle.std.specs.Str.{is_utf8, bytes_eq}
use Rattle.gsm_nums.specs.Whole.{whole_of, without_spaces}
use Rattle.gsm_nums.specs.declared.whole.NumFault.{NumFault}
use Rattle.gsm_nums.specs.declared.whole.NumFault.TheVariants as num
use Rattle.stage_file.specs.declared.limits.TheConstants.{MAX_NAME, MAX_FACTOR}

-- the field is no UTF-8 text
unfoldable pub is_no_text : List ℕ → Bool
is_no_text field = not (is_utf8 field)

-- the name is empty or too long
unfoldable pub is_bad_name : List ℕ → Bool
is_bad_name name = (length name == 0) || nat_lt MAX_NAME (length name)

-- the number of a field up to a greatest one, spaces at its ends aside
abbrev pub number_in : ℕ → List ℕ → Result ℕ NumFault
number_in most field = whole_of (without_spaces field) 0 most

-- nothing but spaces, or not digits
abbrev pub fails_as_number : Result ℕ NumFault → Bool
fails_as_number (Ok n) = false
fails_as_number (Err num.Empty) = true
fails_as_number (Err num.NotDigits) = true
fails_as_number (Err num.OutOfRange) = false

-- something other than digits
abbrev pub fails_as_digits : Result ℕ NumFault → Bool
fails_as_digits (Ok n) = false
fails_as_digits (Err num.Empty) = false
fails_as_digits (Err num.NotDigits) = true
fails_as_digits (Err num.OutOfRange) = false

-- a number is out of its range
abbrev pub fails_as_range : Result ℕ NumFault → Bool
fails_as_range (Ok n) = false
fails_as_range (Err num.Empty) = false
fails_as_range (Err num.NotDigits) = false
fails_as_range (Err num.OutOfRange) = true

-- the number, or this one where there is none
abbrev pub value_or : ℕ → Result ℕ NumFault → ℕ
value_or blank (Ok n) = n
value_or blank (Err e) = blank

-- a number field that may not be blank is blank or not digits
unfoldable pub is_no_number : ℕ → List ℕ → Bool
is_no_number most field = fails_as_number (number_in most field)

-- a number field that may be blank is neither blank nor digits
unfoldable pub is_misread : ℕ → List ℕ → Bool
is_misread most field = fails_as_digits (number_in most field)

-- a number field is out of its range
unfoldable pub is_past : ℕ → List ℕ → Bool
is_past most field = fails_as_range (number_in most field)

-- the number of a field, another number where it is blank
unfoldable pub number_or : ℕ → ℕ → List ℕ → ℕ
number_or blank most field = value_or blank (number_in most field)

-- the bytes begin a bound by demand
unfoldable pub is_normal : List ℕ → Bool
is_normal field = starts_with nat_eq field (codes "normal:")

-- what follows `normal:`
abbrev pub factor_in : List ℕ → List ℕ
factor_in field = drop 7 field

-- the bound begins with `normal:` and no whole number in its range follows
unfoldable pub is_bad_bound : List ℕ → Bool
is_bad_bound field = is_normal field && (is_no_number MAX_FACTOR (factor_in field) || is_past MAX_FACTOR (factor_in field))

-- a table may not have the name of another kind of bound
unfoldable pub is_kept_name : List ℕ → Bool
is_kept_name name = bytes_eq name (codes "sum") || bytes_eq name (codes "pool") || is_normal name
