-- A fetch goes on where the one before ended.
use Rattle.std.proofs.Common.{◌≡◌, ℕ, ◌+◌, ◌≤◌, List, ◌++◌, length, take, drop, Option, Some, None, ap, ◌∙◌, inl, inr, arith, length-append, length-take, length-drop, take_all}
use Rattle.std.specs.Option.{IfSome}
use Rattle.std.proofs.Math.Seq.{take-add}
use Rattle.std.proofs.lemmas.Bool.{cases_lt}
use Rattle.gsm_outside.specs.Held.{Held, file_bytes, Fetched}
use Rattle.request_files.specs.Reading.{IsFront, WhereTold}

front_more : (file old buf : List ℕ) (at n : ℕ) → at ≡ length old → Fetched file at buf n → IsFront file old → IsFront file (old ++ take n buf) × (n ≡ 0 → old ++ take n buf ≡ file)
front_more file old buf at n here f front =
    let size : length (take n buf) ≡ n = omega (arith, length-take n buf, f.fits) in
    let joined : old ++ take n buf ≡ take (at + n) file = rw (take-add at n file, f.bytes, here) (ap (λ x. x ++ take n (drop (length old) file)) front) in
    let whole : length (old ++ take n buf) ≡ at + n = omega (arith, length-append old (take n buf), size, here) in
    let last : n ≡ 0 → length file ≤ at + n = λ none. elim (cases_lt 0 (length (drop at file))) [ inl more ↦ absurd (omega (arith, f.some more, none)) | inr less ↦ omega (arith, length-drop at file, less) ] in
    (rw whole joined, λ none. joined ∙ take_all (at + n) file (last none))

pub told_more : (held : Option Held) (name old buf : List ℕ) (at n : ℕ) → at ≡ length old → IfSome held (λ m. Fetched (file_bytes m name) at buf n)
    → WhereTold held name (λ file. IsFront file old → IsFront file (old ++ take n buf) × (n ≡ 0 → old ++ take n buf ≡ file))
told_more None name old buf at n here f = f
told_more (Some m) name old buf at n here f = front_more (file_bytes m name) old buf at n here f
