-- Cuts that leave both halves of an interval, one after another.
use Rattle.std.proofs.Common.{◌≡◌, ℕ, zero, suc, ◌+◌, ◌<◌, ◌≤◌, List, [], ◌∷◌, ◌++◌, length, take, sym, subst, ⊎_elim, add-one, arith}
use Rattle.std.proofs.lemmas.Bool.{cases_lt}
use Rattle.std.proofs.lemmas.List.{length_push, take_more, take_all, take-append-le, take_at, get_or_append_left, get_or_push}
use Rattle.service_model.specs.Net.{Net}
use Rattle.service_model.specs.Ranges.{HoldsTime}
use Rattle.service_model.specs.CertRanges.{Cut, no_cut, cut_at, node_range, IsCut, AreCuts}

-- the cut names a leaf of the earlier cuts, whose interval of the stage holds the time and the next
pub record IsHalving (n : Net) (earlier : List Cut) (c : Cut) : Type 0 where
  pub cut : IsCut n earlier c
  pub next : HoldsTime (node_range n earlier c.node) c.stage (c.last + 1)

-- each cut is so after the cuts before it
abbrev pub Each : (List Cut → Cut → Type 0) → List Cut → Type 0
Each R cuts = (k : ℕ) → k < length cuts → R (take k cuts) (cut_at cuts k)

-- one cut more
pub each_more : (R : List Cut → Cut → Type 0) (cuts : List Cut) (c : Cut) → Each R cuts → R cuts c → Each R (cuts ++ c ∷ [])
each_more R cuts c are new i within = ⊎_elim
    (λ old.
    subst (λ cs. R cs (cut_at (cuts ++ c ∷ []) i)) (sym (take-append-le i cuts (c ∷ []) (omega (arith, old))))
    (subst (R (take i cuts)) (sym (get_or_append_left cuts (c ∷ []) no_cut i old)) (are i old)))
    (λ at.
    let last : length cuts ≡ i = omega (arith, at, within, length_push cuts c) in
    subst (λ cs. R cs (cut_at (cuts ++ c ∷ []) i)) (sym (take_at cuts (c ∷ []) i last))
    (subst (R cuts) (sym (get_or_push cuts c no_cut i last)) new))
    (cases_lt i (length cuts))

fronts : (R : List Cut → Cut → Type 0) (P : List Cut → Type 0) → P [] → ((earlier : List Cut) (c : Cut) → R earlier c → P earlier → P (earlier ++ c ∷ []))
    → (cuts : List Cut) → Each R cuts → (m : ℕ) → m ≤ length cuts → P (take m cuts)
fronts R P none more cuts are zero few = none
fronts R P none more cuts are (suc m) few =
    let grown : take (suc m) cuts ≡ take m cuts ++ cut_at cuts m ∷ [] = rw (← add-one) (take_more cuts m no_cut (omega arith)) in
    subst P (sym grown) (more (take m cuts) (cut_at cuts m) (are m (omega arith)) (fronts R P none more cuts are m (omega arith)))

-- what holds of no cuts, and stays with each cut more, holds of all cuts
pub by_each : (R : List Cut → Cut → Type 0) (P : List Cut → Type 0) → P [] → ((earlier : List Cut) (c : Cut) → R earlier c → P earlier → P (earlier ++ c ∷ []))
    → (cuts : List Cut) → Each R cuts → P cuts
by_each R P none more cuts are = subst P (take_all (length cuts) cuts (omega arith)) (fronts R P none more cuts are (length cuts) (omega arith))

pub cuts_of_each : (n : Net) (cuts : List Cut) → Each (IsHalving n) cuts → AreCuts n cuts
cuts_of_each n cuts are k within = (are k within).cut
