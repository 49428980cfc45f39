-- The fields of a trial are text, and the names of its stages are names.
use Rattle.std.proofs.Common.{◌≡◌, ◌≢◌, ℕ, ◌+◌, ◌^◌, ◌<◌, ◌≤◌, ◌==◌, ◌||◌, nat_lt, Bool, true, false, List, [], ◌++◌, length, get_or, All, length-append, refl, ap, inl, inr, arith}
use Rattle.std.specs.List.{list_all}
use Rattle.std.proofs.lemmas.List.Sums.{AllPass-from_list_all}
use Rattle.std.specs.Prelude.{codes, decimal}
use Rattle.std.specs.Str.{IsAscii, bytes_eq}
use Rattle.std.proofs.lemmas.Bool.{cases_lt, ltb-true, false_from_ne_true, ne_eqb, le-ltb, or_from, and_right}
use Rattle.std.proofs.lemmas.Fmt.{IsAscii-decimal, length-decimal-le, decimal_injective}
use Rattle.std.proofs.lemmas.List.{append_cancel_left, get_or_past}
use Rattle.std.proofs.lemmas.Slice.Eq.{bytes_eq-Decides}
use Rattle.std.proofs.lemmas.Str.{IsAscii-append, IsUtf8-from_ascii, IsUtf8-nil}
use Rattle.stage_file.specs.Fields.{is_no_text, is_bad_name, is_no_number, is_past, is_normal, is_bad_bound}
use Rattle.stage_file.specs.declared.limits.TheConstants.{MAX_NAME, MAX_FACTOR}
use Rattle.stage_file.specs.declared.stages.Bound.TheVariants.{Normal}
use Rattle.stage_file.specs.StageRecords.{bound_in}
use Rattle.stage_file.proofs.FieldFacts.{text_is}
use Rattle.trial_rows.specs.Trials.{name_of}
use Rattle.trial_rows.proofs.NumberFacts.{is_number, is_in_range, number_is}

pub ascii_text : (bytes : List ℕ) → IsAscii bytes → is_no_text bytes ≡ false
ascii_text bytes ascii = text_is bytes (IsUtf8-from_ascii bytes ascii)

-- each byte is below 128
abbrev pub has_small_bytes : List ℕ → Bool
has_small_bytes word = list_all (λ c. nat_lt c 128) word

ascii_from : (word : List ℕ) → has_small_bytes word ≡ true → IsAscii word
ascii_from word small i =
    let each = AllPass-from_list_all (λ c. nat_lt c 128) word small in
    elim (cases_lt i (length word)) [
      | inl inside ↦ ltb-true (get_or word i 0) 128 (each i 0 inside)
      | inr past ↦ (let none : get_or word i 0 ≡ 0 = get_or_past word i 0 past in omega (arith, none))
    ]

-- words of such bytes are texts
pub word_texts : (words : List (List ℕ)) → list_all has_small_bytes words ≡ true → All (λ word. is_no_text word ≡ false) words
word_texts words small =
    let each = AllPass-from_list_all has_small_bytes words small in
    λ k d inside. ascii_text (get_or words k d) (ascii_from (get_or words k d) (each k d inside))

pub decimal_text : (n : ℕ) → n < 2 ^ 64 → is_no_text (decimal n) ≡ false
decimal_text n small = ascii_text (decimal n) (IsAscii-decimal n small)

pub empty_text : is_no_text [] ≡ false
empty_text = text_is [] IsUtf8-nil

pub zero_text : is_no_text (codes "0") ≡ false
zero_text = ascii_text (codes "0") (ascii_from (codes "0") refl)

pub one_text : is_no_text (codes "1") ≡ false
one_text = ascii_text (codes "1") (ascii_from (codes "1") refl)

-- a word in front of a number
word_text : (word : List ℕ) (n : ℕ) → IsAscii word → n < 2 ^ 64 → is_no_text (word ++ decimal n) ≡ false
word_text word n ascii small = ascii_text (word ++ decimal n) (IsAscii-append word (decimal n) ascii (IsAscii-decimal n small))

-- a stage's name is text, and a name that is not too long
pub name_text : (j : ℕ) → j < 2 ^ 32 → is_no_text (name_of j) ≡ false
name_text j few = word_text (codes "s") (j + 1) (ascii_from (codes "s") refl) (omega arith)

pub name_allowed : (j : ℕ) → j < 2 ^ 32 → is_bad_name (name_of j) ≡ false
unfolding is_bad_name
name_allowed j few =
    let long : length (name_of j) ≡ 1 + length (decimal (j + 1)) = length-append (codes "s") (decimal (j + 1)) in
    let short : length (decimal (j + 1)) ≤ 20 = length-decimal-le 20 (j + 1) (omega arith) (omega arith) (omega arith) in
    let some : (length (name_of j) == 0) ≡ false = ne_eqb (length (name_of j)) 0 (λ none. omega (arith, none, long)) in
    or_from (length (name_of j) == 0) (nat_lt MAX_NAME (length (name_of j))) some (le-ltb MAX_NAME (length (name_of j)) (omega (arith, long, short)))

-- a name is that of one stage
pub one_name : (i j : ℕ) → i < 2 ^ 32 → j < 2 ^ 32 → bytes_eq (name_of i) (name_of j) ≡ true → i ≡ j
one_name i j low few is =
    let same : name_of i ≡ name_of j = (bytes_eq-Decides (name_of i) (name_of j)).0 is in
    let digits : decimal (i + 1) ≡ decimal (j + 1) = append_cancel_left (codes "s") (decimal (i + 1)) (decimal (j + 1)) same in
    let one : i + 1 ≡ j + 1 = decimal_injective (i + 1) (j + 1) (omega arith) (omega arith) digits in
    omega (arith, one)

pub names_apart : (i j : ℕ) → i < 2 ^ 32 → j < 2 ^ 32 → i ≢ j → bytes_eq (name_of i) (name_of j) ≡ false
names_apart i j low few apart = false_from_ne_true (bytes_eq (name_of i) (name_of j)) (λ is. apart (one_name i j low few is))

pub name_equal : (j : ℕ) → bytes_eq (name_of j) (name_of j) ≡ true
name_equal j = (bytes_eq-Decides (name_of j) (name_of j)).1 refl

-- the bound of a stage
abbrev pub bound_field : ℕ → List ℕ
bound_field factor = codes "normal:" ++ decimal factor

pub bound_text : (factor : ℕ) → factor < 2 ^ 64 → is_no_text (bound_field factor) ≡ false
bound_text factor small =
    word_text (codes "normal:") factor (ascii_from (codes "normal:") refl) small

bound_is_normal : (factor : ℕ) → is_normal (bound_field factor) ≡ true
unfolding is_normal
bound_is_normal factor = refl

pub bound_allowed : (factor : ℕ) → factor ≤ MAX_FACTOR → is_bad_bound (bound_field factor) ≡ false
unfolding is_bad_bound
bound_allowed factor low =
    let digits : is_no_number MAX_FACTOR (decimal factor) ≡ false = is_number MAX_FACTOR factor low (omega arith) in
    let range : is_past MAX_FACTOR (decimal factor) ≡ false = is_in_range MAX_FACTOR factor low (omega arith) in
    and_right (is_normal (bound_field factor)) (is_no_number MAX_FACTOR (decimal factor) || is_past MAX_FACTOR (decimal factor)) (or_from (is_no_number MAX_FACTOR (decimal factor)) (is_past MAX_FACTOR (decimal factor)) digits range)

pub bound_is : (factor : ℕ) → factor ≤ MAX_FACTOR → bound_in (bound_field factor) ≡ Normal factor
unfolding bound_in
bound_is factor low = rw (bound_is_normal factor) (ap (λ (n : ℕ). Normal n) (number_is 0 MAX_FACTOR factor low (omega arith)))
