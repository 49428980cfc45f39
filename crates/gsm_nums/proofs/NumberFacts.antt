-- One digit more.
use Rattle.std.proofs.Common.{◌≡◌, ℕ, ◌+◌, ◌-◌, ◌*◌, ◌^◌, ◌<◌, min, List, [], ◌∷◌, ◌++◌, length, take, get_or, arith, ap, ◌∙◌, length-append}
use Rattle.std.proofs.lemmas.List.{take_more}
use Rattle.std.proofs.lemmas.Nat.{pow-add}
use Rattle.gsm_nums.specs.Whole.{number_of}

-- a digit behind the others
number_push : (digits : List ℕ) (c : ℕ) → number_of (digits ++ c ∷ []) ≡ number_of digits * 10 + (c - 48)
number_push [] c = omega arith
number_push (d ∷ digits) c =
    let ten_times : 10 ^ length (digits ++ c ∷ []) ≡ 10 ^ length digits * 10 = simp (length-append, pow-add) in
    rw (ten_times, number_push digits c) (omega arith)

-- one turn of the loop, which goes no higher than `most`
pub saturated_more : (digits : List ℕ) (i number digit most : ℕ) → i < length digits → digit ≡ get_or digits i 0 → number ≡ min (number_of (take i digits)) most
    → min (min (number * 10) most + (digit - 48)) most ≡ min (number_of (take (i + 1) digits)) most
saturated_more digits i number digit most within read before =
    let more : number_of (take (i + 1) digits) ≡ number_of (take i digits) * 10 + (get_or digits i 0 - 48) =
    ap number_of (take_more digits i 0 within) ∙ number_push (take i digits) (get_or digits i 0) in
    omega (arith, more, before, read)
