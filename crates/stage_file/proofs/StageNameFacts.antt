-- The names of stages differ.
use Rattle.std.proofs.Common.{◌≡◌, ◌≢◌, ℕ, ◌<◌, Bool, true, false, List, length, take, get_or, AllPairs, refl, sym, ◌∙◌, arith}
use Rattle.std.proofs.lemmas.List.{length-map, length-take, get_or-map, get_or-take}
use Rattle.std.proofs.lemmas.List.Folds.{list_any_none}
use Rattle.std.proofs.lemmas.Slice.Eq.{bytes_eq-Decides}
use Rattle.std.specs.List.{list_any}
use Rattle.std.specs.Str.{bytes_eq}
use Rattle.stage_file.specs.declared.stages.StageRow.{StageRow}
use Rattle.stage_file.specs.Arcs.{names_of}

-- the test of two names that differ
pub unequal : (a b : List ℕ) (same : Bool) → bytes_eq a b ≡ same → a ≢ b → same ≡ false
unequal a b true e apart = absurd (apart ((bytes_eq-Decides a b).0 e))
unequal a b false e apart = refl

-- a stage has another name than those before it
pub name_new : (stages : List StageRow) (k : ℕ) (s : StageRow) → AllPairs (λ s t. s.name ≢ t.name) stages → k < length stages → get_or stages k s ≡ s → list_any (bytes_eq s.name) (names_of (take k stages)) ≡ false
name_new stages k s distinct within at =
    list_any_none (bytes_eq s.name) (names_of (take k stages)) (λ i d before.
    let here : i < k = omega (arith, length-map (take k stages) (λ (t : StageRow). t.name), length-take k stages) in
    let there : get_or (names_of (take k stages)) i d ≡ (get_or stages i s).name = get_or-map (λ (t : StageRow). t.name) (take k stages) i s d (omega (arith, length-take k stages)) ∙ rw (get_or-take k stages i s here) refl in
    let apart : s.name ≢ get_or (names_of (take k stages)) i d = λ same. distinct i k s here within (rw at (sym there ∙ sym same)) in
    unequal s.name (get_or (names_of (take k stages)) i d) (bytes_eq s.name (get_or (names_of (take k stages)) i d)) refl apart)
