-- The whole number that a field shows.
use Rattle.std.specs.Prelude.{ℕ, ◌+◌, ◌-◌, ◌*◌, ◌^◌, ◌==◌, ◌||◌, Bool, not, nat_lt, List, [], ◌∷◌, length, take, drop, Result, Ok, Err, if◌then◌else◌}
use Rattle.std.specs.Char.{is_ascii_digit}
use Rattle.std.specs.List.{prefix_len, suffix_len, list_all}
use Rattle.gsm_nums.specs.declared.whole.NumFault.{NumFault}
use Rattle.gsm_nums.specs.declared.whole.NumFault.TheVariants.{Empty, NotDigits, OutOfRange}

-- whether a byte is a space
abbrev pub is_space : ℕ → Bool
is_space byte = byte == 32

-- the bytes from the first that is no space on
abbrev pub without_first_spaces : List ℕ → List ℕ
without_first_spaces bytes = drop (prefix_len is_space bytes) bytes

-- the bytes up to the last that is no space
abbrev pub without_last_spaces : List ℕ → List ℕ
without_last_spaces bytes = take (length bytes - suffix_len is_space bytes) bytes

-- the bytes without the spaces at both ends
unfoldable pub without_spaces : List ℕ → List ℕ
without_spaces bytes = without_last_spaces (without_first_spaces bytes)

-- the number that digits write: each digit counts tenfold for each digit behind it
abbrev pub number_of : List ℕ → ℕ
number_of [] = 0
number_of (digit ∷ behind) = (digit - 48) * 10 ^ length behind + number_of behind

-- the number that a field shows, or why there is none: it is empty, has more than digits, or its number is out of the range
unfoldable pub whole_of : List ℕ → ℕ → ℕ → Result ℕ NumFault
whole_of field least most =
    if length field == 0 then Err Empty
    else if not (list_all is_ascii_digit field) then Err NotDigits
    else if nat_lt (number_of field) least || nat_lt most (number_of field) then Err OutOfRange
    else Ok (number_of field)
