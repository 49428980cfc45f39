-- Steps along numbers that lead to earlier places.
use Rattle.std.proofs.Common.{ℕ, zero, suc, ◌≡◌, ◌<◌, ◌≤◌, List, length, get_or, refl, sym, ap, ◌∙◌, subst, inl, inr, ⊎_elim, arith}
use Rattle.std.specs.Prelude.{◌⊎◌}
use Rattle.std.proofs.lemmas.Bool.{cases_lt}
use Rattle.std.proofs.lemmas.List.{get_or_past}
use Rattle.cluster_split.specs.Tops.{reached, Reaches, Falls, IsTop}

-- numbers that lead no later within their list lead no later past it
pub falls_from : (xs : List ℕ) → ((k : ℕ) → k < length xs → get_or xs k 0 ≤ k) → Falls xs
falls_from xs each k = ⊎_elim
    (λ inside. each k inside)
    (λ past. let none = get_or_past xs k 0 past in omega (arith, none))
    (cases_lt k (length xs))

pub reach_not : (xs : List ℕ) (k : ℕ) → Reaches xs k k
reach_not xs k = (0, refl)

pub reach_step : (xs : List ℕ) (k h : ℕ) → Reaches xs (get_or xs k 0) h → Reaches xs k h
reach_step xs k h (n, is) = (suc n, is)

pub reach_one : (xs : List ℕ) (k : ℕ) → Reaches xs k (get_or xs k 0)
reach_one xs k = (1, refl)

steps_then : (xs : List ℕ) (n k m h : ℕ) → reached xs k n ≡ m → Reaches xs m h → Reaches xs k h
steps_then xs zero k m h is then = subst (λ v. Reaches xs v h) (sym is) then
steps_then xs (suc n) k m h is then = reach_step xs k h (steps_then xs n (get_or xs k 0) m h is then)

pub reach_trans : (xs : List ℕ) (k m h : ℕ) → Reaches xs k m → Reaches xs m h → Reaches xs k h
reach_trans xs k m h (n, is) then = steps_then xs n k m h is then

steps_le : (xs : List ℕ) → Falls xs → (n k : ℕ) → reached xs k n ≤ k
steps_le xs falls zero k = omega arith
steps_le xs falls (suc n) k = let rest = steps_le xs falls n (get_or xs k 0) in omega (arith, rest, falls k)

pub reach_le : (xs : List ℕ) (k h : ℕ) → Falls xs → Reaches xs k h → h ≤ k
reach_le xs k h falls (n, is) = omega (arith, steps_le xs falls n k, is)

-- a top leads to itself alone
steps_top : (xs : List ℕ) (r : ℕ) → IsTop xs r → (n k : ℕ) → k ≡ r → reached xs k n ≡ r
steps_top xs r top zero k is = is
steps_top xs r top (suc n) k is = steps_top xs r top n (get_or xs k 0) (ap (λ v. get_or xs v 0) is ∙ top)

pub top_alone : (xs : List ℕ) (r h : ℕ) → IsTop xs r → Reaches xs r h → h ≡ r
top_alone xs r h top (n, is) = sym is ∙ steps_top xs r top n r refl

-- of two places above one, one is above the other
steps_split : (xs : List ℕ) (n m k h r : ℕ) → reached xs k n ≡ h → reached xs k m ≡ r → Reaches xs h r ⊎ Reaches xs r h
steps_split xs zero m k h r is is' = inl (m, ap (λ v. reached xs v m) (sym is) ∙ is')
steps_split xs (suc n) zero k h r is is' = inr (suc n, ap (λ v. reached xs v (suc n)) (sym is') ∙ is)
steps_split xs (suc n) (suc m) k h r is is' = steps_split xs n m (get_or xs k 0) h r is is'

pub reach_split : (xs : List ℕ) (k h r : ℕ) → Reaches xs k h → Reaches xs k r → Reaches xs h r ⊎ Reaches xs r h
reach_split xs k h r (n, is) (m, is') = steps_split xs n m k h r is is'

-- a place other than h leads to h exactly where its step does
pub reach_on : (xs : List ℕ) (k h : ℕ) → (k ≡ h → ⊥) → Reaches xs k h → Reaches xs (get_or xs k 0) h
reach_on xs k h apart (zero, is) = absurd (apart is)
reach_on xs k h apart (suc n, is) = (n, is)

-- one top above a place
pub one_top : (xs : List ℕ) (k h r : ℕ) → IsTop xs h → IsTop xs r → Reaches xs k h → Reaches xs k r → h ≡ r
one_top xs k h r top top' to to' = ⊎_elim
    (λ there. sym (top_alone xs h r top there))
    (λ back. top_alone xs r h top' back)
    (reach_split xs k h r to to')

-- what stands above place k, its root apart, is where the next place leads
pub above_on : (xs : List ℕ) (k h r : ℕ) → IsTop xs r → (IsTop xs h → ⊥) → Reaches xs k h → Reaches xs k r → Reaches xs (get_or xs h 0) r
above_on xs k h r top low to to' = ⊎_elim
    (λ there. reach_on xs h r (λ same. low (subst (λ v. IsTop xs v) (sym same) top)) there)
    (λ back. absurd (low (subst (λ v. IsTop xs v) (sym (top_alone xs r h top back)) top)))
    (reach_split xs k h r to to')
