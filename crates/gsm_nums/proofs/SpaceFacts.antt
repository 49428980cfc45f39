-- Without its spaces a field has nothing left just where it is blank.
use Rattle.std.proofs.Common.{◌≡◌, ℕ, ◌-◌, ◌<◌, ◌≤◌, List, length, true, false, reverse, get_or, arith, inl, inr, length-drop, ap}
use Rattle.std.proofs.lemmas.Bool.{cases_lt}
use Rattle.std.proofs.lemmas.List.{length-take, get_or-reverse, get_or-drop}
use Rattle.std.proofs.lemmas.List.Sums.{AllPass-from_list_all, list_all-from_AllPass, prefix_len_is, prefix_len_stops, prefix_len_passes}
use Rattle.std.specs.List.{list_all, prefix_len, suffix_len, AllPass}
use Rattle.gsm_nums.specs.Whole.{is_space, without_spaces, without_first_spaces, without_last_spaces}

pub blank_leaves_none : (bytes : List ℕ) → list_all is_space bytes ≡ true → length (without_spaces bytes) ≡ 0
unfolding without_spaces
blank_leaves_none bytes blank =
    let each : AllPass is_space bytes = AllPass-from_list_all is_space bytes blank in
    let all : prefix_len is_space bytes ≡ length bytes = prefix_len_is is_space bytes (length bytes) 0 (omega arith) (λ k below. each k 0 below) (λ below. absurd (omega arith)) in
    simp (length-take, length-drop) (omega arith)

-- the first of some bytes is a space where the spaces at their end are all of them
first_is_space : (bytes : List ℕ) → 0 < length bytes → length (without_last_spaces bytes) ≡ 0 → is_space (get_or bytes 0 0) ≡ true
first_is_space bytes some none =
    let all : length bytes ≤ prefix_len is_space (reverse bytes) = omega (arith, length-take (length bytes - suffix_len is_space bytes) bytes, none) in
    let last : is_space (get_or (reverse bytes) (length bytes - 1) 0) ≡ true = prefix_len_passes is_space (reverse bytes) (length bytes - 1) 0 (omega arith) in
    let place : length bytes - 1 - (length bytes - 1) ≡ 0 = omega arith in
    rw (get_or-reverse bytes (length bytes - 1) 0 (omega arith), place) at last

pub none_left_is_blank : (bytes : List ℕ) → length (without_spaces bytes) ≡ 0 → list_all is_space bytes ≡ true
unfolding without_spaces
none_left_is_blank bytes none = elim (cases_lt (prefix_len is_space bytes) (length bytes)) [
  | inl stops ↦
      let stop : is_space (get_or bytes (prefix_len is_space bytes) 0) ≡ false = prefix_len_stops is_space bytes 0 stops in
      let some : 0 < length (without_first_spaces bytes) = omega (arith, length-drop (prefix_len is_space bytes) bytes) in
      let first : is_space (get_or (without_first_spaces bytes) 0 0) ≡ true = first_is_space (without_first_spaces bytes) some none in
      let same : get_or (without_first_spaces bytes) 0 0 ≡ get_or bytes (prefix_len is_space bytes) 0 = rw get_or-drop (ap (λ place. get_or bytes place 0) (omega arith)) in
      let both : is_space (get_or bytes (prefix_len is_space bytes) 0) ≡ true = rw same at first in
      cc
  | inr passes ↦ list_all-from_AllPass is_space bytes (λ k d below. prefix_len_passes is_space bytes k d (omega arith))
]
