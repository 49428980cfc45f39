-- What a turn writes joins the front.
use Rattle.std.proofs.Common.{◌≡◌, ℕ, ◌-◌, List, ◌++◌, length, take, drop, sym, ap, ◌∙◌, append_assoc, take-append-drop}
use Rattle.std.proofs.lemmas.List.{take_rest}
use Rattle.std.proofs.KnownBytes.{Appends-trans}
use Rattle.gsm_outside.proofs.real.write_whole.Goals as goal

-- a front of the rest joins the front
joins : (whole front rest : List ℕ) (n : ℕ) → whole ≡ front ++ rest → whole ≡ (front ++ take n rest) ++ take (length rest - n) (drop n rest)
joins whole front rest n split =
    let parted : rest ≡ take n rest ++ take (length rest - n) (drop n rest) =
    sym (ap (λ l. take n rest ++ l) (take_rest rest n) ∙ take-append-drop n rest) in
    split ∙ ap (λ l. front ++ l) parted ∙ sym (append_assoc front (take n rest) _)

pub turns-preserved : goal.turns-preserved
turns-preserved g c =
    let (front, split, appended) = c.turns.invariant in
    let n = c.in_ok-count.count in
    (front ++ take n c.turns.rest.now, joins _ front _ n split, Appends-trans _ _ _ _ _ appended c.in_ok-count.ensures.bytes)
