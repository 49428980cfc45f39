-- Stages seen one after the other, each once.
use Rattle.std.proofs.Common.{ℕ, zero, suc, ◌≡◌, ◌≢◌, ◌<◌, ◌≤◌, Bool, true, false, not, cond, eqb, List, [], ◌∷◌, ◌++◌, length, get_or, set, take, replicate, sym, ap, ◌∙◌, subst, ⊎_elim, refl, arith}
use Rattle.std.specs.Prelude.{Contains, count_by}
use Rattle.std.specs.List.{IsDistinct, list_any}
use Rattle.std.proofs.lemmas.Bool.{cases_eq, cases_lt, both_ways, eqb-true, ne_eqb}
use Rattle.std.proofs.lemmas.Cmp.{nat_eq_equiv}
use Rattle.std.proofs.lemmas.List.{length_push, length-set, length-replicate, get_or-replicate, get_or_past, get_or-set_same, get_or-set_other, get_or_push, get_or_append_left, get_or_default, take_at, take-append-le, get_or-take, length-take}
use Rattle.std.proofs.lemmas.List.Elements.{Contains-push, Contains-append_left, Contains-push_cases, recursion_from_All}
use Rattle.std.proofs.lemmas.List.Sums.{sum_by-set, sum_by-cons}
use Rattle.std.proofs.lemmas.Map.Steps.{length-le_from_distinct_below}
use Rattle.std.proofs.lemmas.Map.Views.{Contains-from_any, list_any-from_Contains}
use Rattle.service_model.specs.Marks.{Marks}

-- marks

all_off : (n : ℕ) → count_by (λ b. not b) (replicate n false) ≡ n
all_off zero = refl
all_off (suc n) = let rest = all_off n in let e = sum_by-cons (λ (b : Bool). cond (not b) 1 0) false (replicate n false) in omega (arith, rest, e)

none_marked : (n q : ℕ) → get_or (replicate n false) q false ≡ false
none_marked n q = ⊎_elim
    (λ low. get_or-replicate n q false false low)
    (λ past. get_or_past (replicate n false) q false (omega (arith, past, length-replicate n false)))
    (cases_lt q n)

pub marks_none : (n : ℕ) → Marks (replicate n false) []
marks_none n = record {
  there = λ q h. absurd (omega (arith, h.1));
  marked = λ q h. absurd (omega (arith, h.1));
  only = λ q is. absurd (both_ways _ (none_marked n q) is);
  counts = let off = all_off n in omega (arith, off, length-replicate n false);
}

pub marks_push : (marks : List Bool) (seen : List ℕ) (y : ℕ) → Marks marks seen → y < length marks → get_or marks y false ≡ false → Marks (set marks y true) (seen ++ y ∷ [])
marks_push marks seen y old low off = record {
  there = λ q h. ⊎_elim
      (λ was. omega (arith, old.there q was, length-set marks y true))
      (λ same. omega (arith, low, same, length-set marks y true))
      (Contains-push_cases seen y q h);
  marked = λ q h. ⊎_elim
      (λ same. ap (λ n. get_or (set marks y true) n false) same ∙ get_or-set_same marks y true false low)
      (λ other. ⊎_elim
      (λ was. get_or-set_other marks y q true false other ∙ old.marked q was)
      (λ same. absurd (other (sym same)))
      (Contains-push_cases seen y q h))
      (cases_eq q y);
  only = λ q is. ⊎_elim
      (λ same. subst (λ x. Contains (seen ++ y ∷ []) x) (sym same) (Contains-push seen y))
      (λ other. Contains-append_left seen (y ∷ []) q (old.only q (sym (get_or-set_other marks y q true false other) ∙ is)))
      (cases_eq q y);
  counts =
      let e = sum_by-set (λ b. cond (not b) 1 0) marks y true false low in
      let one : ℕ = 1 in
      let here : cond (not (get_or marks y false)) 1 0 ≡ one = ap (λ b. cond (not b) 1 0) off in
      omega (arith, e, here, old.counts, length_push seen y, length-set marks y true);
}

-- lists

pub exact : (x y : ℕ) → eqb x y ≡ true → x ≡ y
exact x y h = eqb-true x y h

abbrev pub is_among : List ℕ → ℕ → Bool
is_among xs i = list_any (λ k. eqb i k) xs

pub among_from : (xs : List ℕ) (i : ℕ) → Contains xs i → is_among xs i ≡ true
among_from xs i inside = list_any-from_Contains nat_eq_equiv i xs inside

pub among_to : (xs : List ℕ) (i : ℕ) → is_among xs i ≡ true → Contains xs i
among_to xs i is = Contains-from_any exact i xs is

distinct_from : (xs : List ℕ) → ((i j : ℕ) → i < j → j < length xs → get_or xs i 0 ≢ get_or xs j 0) → IsDistinct eqb xs
unfolding IsDistinct
distinct_from [] apart = tt
distinct_from (x ∷ xs) apart = (
  recursion_from_All _ xs (λ k d inside. ne_eqb _ _ (λ same. apart 0 (suc k) (omega arith) (omega (arith, inside)) (same ∙ get_or_default xs k d 0 inside))),
  distinct_from xs (λ i j less inside. apart (suc i) (suc j) (omega arith) (omega arith)),
)

-- numbers below n, each new to those before it, are at most n
pub few_new : (xs : List ℕ) (n : ℕ) → ((k : ℕ) → k < length xs → get_or xs k 0 < n) → ((k : ℕ) → k < length xs → Contains (take k xs) (get_or xs k 0) → ⊥) → length xs ≤ n
few_new xs n low new =
    length-le_from_distinct_below xs n
    (distinct_from xs (λ i j less inside same.
    new j inside (i, omega (arith, length-take j xs), get_or-take j xs i (get_or xs j 0) less ∙ get_or_default xs i (get_or xs j 0) 0 (omega arith) ∙ same)))
    (λ q is.
    let at = among_to xs q is in
    subst (λ x. x < n) (get_or_default xs at.0 0 q at.1 ∙ at.2) (low at.0 at.1))

take_low : (xs : List ℕ) (y k : ℕ) → k < length xs → take k (xs ++ y ∷ []) ≡ take k xs
take_low xs y k low = take-append-le k xs (y ∷ []) (omega arith)

take_here : (xs : List ℕ) (y k : ℕ) → k ≡ length xs → take k (xs ++ y ∷ []) ≡ xs
take_here xs y k at = take_at xs (y ∷ []) k (sym at)

-- a fact of each item and those before it, with one item more
pub each_push : (P : List ℕ → ℕ → Type 0) (xs : List ℕ) (y : ℕ) → ((k : ℕ) → k < length xs → P (take k xs) (get_or xs k 0)) → P xs y
    → (k : ℕ) → k < length (xs ++ y ∷ []) → P (take k (xs ++ y ∷ [])) (get_or (xs ++ y ∷ []) k 0)
each_push P xs y each here k inside = ⊎_elim
    (λ low. subst (λ (ys : List ℕ). P ys (get_or (xs ++ y ∷ []) k 0)) (sym (take_low xs y k low))
    (subst (λ x. P (take k xs) x) (sym (get_or_append_left xs (y ∷ []) 0 k low)) (each k low)))
    (λ high.
    let at : k ≡ length xs = omega (arith, length_push xs y) in
    subst (λ (ys : List ℕ). P ys (get_or (xs ++ y ∷ []) k 0)) (sym (take_here xs y k at))
    (subst (λ x. P xs x) (sym (get_or_push xs y 0 k (sym at))) here))
    (cases_lt k (length xs))

-- what stood in the list stands there still, at its place

pub stays : (old new : List ℕ) (q : ℕ) → take (length old) new ≡ old → length old ≤ length new → Contains old q → Contains new q
stays old new q front longer (k, inside, is) =
    (k, omega (arith, inside, longer), sym (get_or-take (length old) new k q inside) ∙ ap (λ xs. get_or xs k q) front ∙ is)

pub same_at : (old new : List ℕ) (k : ℕ) → take (length old) new ≡ old → k < length old → get_or new k 0 ≡ get_or old k 0
same_at old new k front inside = sym (get_or-take (length old) new k 0 inside) ∙ ap (λ xs. get_or xs k 0) front
