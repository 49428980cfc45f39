-- Texts, numbers and blanks.
use Rattle.std.proofs.Common.{◌≡◌, ℕ, Bool, true, false, not, List, [], length, take, drop, Result, Ok, Err, ◌≤◌, ◌-◌, ◌∙◌, refl, ap, arith}
use Rattle.std.proofs.lemmas.List.{drop_all}
use Rattle.std.proofs.lemmas.List.Sums.{AllPass-from_list_all, prefix_len_is, suffix_len_is}
use Rattle.std.specs.List.{prefix_len, suffix_len}
use Rattle.gsm_nums.specs.Whole.{whole_of, without_spaces, is_space}
use Rattle.gsm_nums.specs.declared.whole.NumFault.{NumFault}
use Rattle.std.specs.Str.{IsUtf8, is_utf8}
use Rattle.std.proofs.lemmas.Str.{IsUtf8-from_is_utf8, is_utf8-from_IsUtf8}
use Rattle.stage_file.specs.Fields.{is_no_text, number_in, value_or, number_or}
use Rattle.stage_file.specs.Rows.{is_blank}

pub text_is : (bytes : List ℕ) → IsUtf8 bytes → is_no_text bytes ≡ false
unfolding is_no_text
text_is bytes h = ap not (is_utf8-from_IsUtf8 bytes h)

cases : (bytes : List ℕ) (b : Bool) → is_utf8 bytes ≡ b → (IsUtf8 bytes → ⊥) → not b ≡ true
cases bytes true e h = absurd (h (IsUtf8-from_is_utf8 bytes e))
cases bytes false e h = refl

pub no_text_is : (bytes : List ℕ) → (IsUtf8 bytes → ⊥) → is_no_text bytes ≡ true
unfolding is_no_text
no_text_is bytes h = cases bytes (is_utf8 bytes) refl h

text_if : (bytes : List ℕ) (b : Bool) → is_utf8 bytes ≡ b → not b ≡ false → IsUtf8 bytes
text_if bytes true e h = IsUtf8-from_is_utf8 bytes e
text_if bytes false e h = cc

pub text_from_test : (bytes : List ℕ) → is_no_text bytes ≡ false → IsUtf8 bytes
unfolding is_no_text
text_from_test bytes h = text_if bytes (is_utf8 bytes) refl h

value_grows : (less more : ℕ) (r : Result ℕ NumFault) → less ≤ more → value_or less r ≤ value_or more r
value_grows less more (Ok n) le = omega arith
value_grows less more (Err e) le = le

-- nothing is left of spaces alone
nothing_left : (field : List ℕ) → is_blank field ≡ true → without_spaces field ≡ []
unfolding without_spaces
nothing_left field blank =
    let each = AllPass-from_list_all is_space field blank in
    let ahead : prefix_len is_space field ≡ length field = prefix_len_is is_space field (length field) 0 (omega arith) (λ k l. each k 0 l) (λ l. absurd (omega arith)) in
    let behind : suffix_len is_space field ≡ length field = suffix_len_is is_space field 0 0 (omega arith) (λ k more l. each k 0 l) (λ l. absurd (omega arith)) ∙ omega arith in
    let none : length field - length field ≡ 0 = omega arith in
    let front : take (length field - suffix_len is_space field) field ≡ [] = rw (behind, none) refl in
    let back : drop (prefix_len is_space field) field ≡ [] = rw ahead (drop_all (length field) field (omega arith)) in
    simp (front, back)

-- a blank field gives the number of a blank
pub number_of_blank : (blank most : ℕ) (field : List ℕ) → is_blank field ≡ true → number_or blank most field ≡ blank
unfolding number_or whole_of
number_of_blank blank most field h = rw (nothing_left field h) refl

-- another number for a blank changes a number only upwards
pub number_grows : (less more most : ℕ) (field : List ℕ) → less ≤ more → number_or less most field ≤ number_or more most field
unfolding number_or
number_grows less more most field le = value_grows less more (number_in most field) le
