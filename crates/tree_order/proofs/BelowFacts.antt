-- Lists of stages at and below a stage, put together from its children's.
use Rattle.std.proofs.Common.{ℕ, zero, suc, ◌≡◌, ◌≢◌, Bool, true, List, [], ◌∷◌, ◌++◌, refl, sym, ap, ◌∙◌, subst, inl, inr, ⊎_elim, arith}
use Rattle.std.specs.Prelude.{AllPairs, Contains, filter, ◌⊎◌}
use Rattle.std.specs.List.{flat_map}
use Rattle.std.proofs.lemmas.Bool.{cases_Bool, cond-true, cond-false}
use Rattle.std.proofs.lemmas.List.{get_or_default}
use Rattle.std.proofs.lemmas.List.Elements.{Contains-append_cases, Contains-append_left, Contains-append_right}
use Rattle.std.proofs.lemmas.List.Kept.{AllPairs-cons}

pub in_cons : (x : ℕ) (xs : List ℕ) (j : ℕ) → Contains (x ∷ xs) j → (x ≡ j) ⊎ Contains xs j
in_cons x xs j (zero, low, is) = inl is
in_cons x xs j (suc k, low, is) = inr (k, omega (arith, low), is)

pub in_tail : (x : ℕ) (xs : List ℕ) (j : ℕ) → Contains xs j → Contains (x ∷ xs) j
in_tail x xs j l = (suc l.0, omega (arith, l.1), l.2)

pub in_head : (x : ℕ) (xs : List ℕ) → Contains (x ∷ xs) x
in_head x xs = (0, omega arith, refl)

pub in_flat : (f : ℕ → List ℕ) (cs : List ℕ) (q : ℕ) → Contains (flat_map f cs) q → (c : ℕ) × Contains cs c × Contains (f c) q
in_flat f [] q h = absurd (omega (arith, h.1))
in_flat f (c ∷ cs) q h = ⊎_elim
    (λ here. (c, in_head c cs, here))
    (λ later. let r = in_flat f cs q later in (r.0, in_tail c cs r.0 r.1, r.2))
    (Contains-append_cases (f c) (flat_map f cs) q h)

pub flat_has : (f : ℕ → List ℕ) (cs : List ℕ) (c q : ℕ) → Contains cs c → Contains (f c) q → Contains (flat_map f cs) q
flat_has f [] c q inside here = absurd (omega (arith, inside.1))
flat_has f (e ∷ cs) c q inside here = ⊎_elim
    (λ same. Contains-append_left (f e) (flat_map f cs) q (subst (λ v. Contains (f v) q) (sym same) here))
    (λ later. Contains-append_right (f e) (flat_map f cs) q (flat_has f cs c q later here))
    (in_cons e cs c inside)

pub in_filter : (p : ℕ → Bool) (xs : List ℕ) (q : ℕ) → Contains (filter p xs) q → Contains xs q × (p q ≡ true)
in_filter p [] q h = absurd (omega (arith, h.1))
in_filter p (x ∷ xs) q h = ⊎_elim
    (λ on. ⊎_elim
    (λ same. (subst (λ v. Contains (x ∷ xs) v) same (in_head x xs), subst (λ v. p v ≡ true) same on))
    (λ later. let r = in_filter p xs q later in (in_tail x xs q r.0, r.1))
    (in_cons x (filter p xs) q (subst (λ (v : List ℕ). Contains v q) (cond-true (p x) (x ∷ filter p xs) (filter p xs) on) h)))
    (λ off. let r = in_filter p xs q (subst (λ (v : List ℕ). Contains v q) (cond-false (p x) (x ∷ filter p xs) (filter p xs) off) h) in (in_tail x xs q r.0, r.1))
    (cases_Bool (p x))

pub filter_has : (p : ℕ → Bool) (xs : List ℕ) (q : ℕ) → Contains xs q → p q ≡ true → Contains (filter p xs) q
filter_has p [] q h on = absurd (omega (arith, h.1))
filter_has p (x ∷ xs) q h on = ⊎_elim
    (λ same.
    let here : p x ≡ true = ap p same ∙ on in
    subst (λ (v : List ℕ). Contains v q) (sym (cond-true (p x) (x ∷ filter p xs) (filter p xs) here)) (subst (λ v. Contains (x ∷ filter p xs) v) same (in_head x (filter p xs))))
    (λ later.
    let rest = filter_has p xs q later on in
    ⊎_elim
    (λ yea. subst (λ (v : List ℕ). Contains v q) (sym (cond-true (p x) (x ∷ filter p xs) (filter p xs) yea)) (in_tail x (filter p xs) q rest))
    (λ nay. subst (λ (v : List ℕ). Contains v q) (sym (cond-false (p x) (x ∷ filter p xs) (filter p xs) nay)) rest)
    (cases_Bool (p x)))
    (in_cons x xs q h)

-- each once

abbrev pub Once : List ℕ → Type 0
Once [] = Unit {0}
Once (x ∷ xs) = (Contains xs x → ⊥) × Once xs

pub pairs_from_once : (xs : List ℕ) → Once xs → AllPairs (λ i j. i ≢ j) xs
pairs_from_once [] one = λ i j d less inside same. absurd (omega (arith, inside))
pairs_from_once (x ∷ xs) one =
    AllPairs-cons (λ i j. i ≢ j) x xs (λ k d inside same. one.0 (k, inside, get_or_default xs k x d inside ∙ sym same)) (pairs_from_once xs one.1)

pub once_from_pairs : (xs : List ℕ) → AllPairs (λ i j. i ≢ j) xs → Once xs
once_from_pairs [] apart = tt
once_from_pairs (x ∷ xs) apart = (
  λ h. apart 0 (suc h.0) x (omega arith) (omega (arith, h.1)) (sym h.2),
  once_from_pairs xs (λ i j d less inside. apart (suc i) (suc j) d (omega (arith, less)) (omega (arith, inside))),
)

once_append : (xs ys : List ℕ) → Once xs → Once ys → ((q : ℕ) → Contains xs q → Contains ys q → ⊥) → Once (xs ++ ys)
once_append [] ys one two apart = two
once_append (x ∷ xs) ys one two apart = (
  λ h. ⊎_elim one.0 (λ right. apart x (in_head x xs) right) (Contains-append_cases xs ys x h),
  once_append xs ys one.1 two (λ q left right. apart q (in_tail x xs q left) right),
)

pub flat_once : (f : ℕ → List ℕ) (cs : List ℕ) → Once cs → ((c : ℕ) → Contains cs c → Once (f c)) → ((c e q : ℕ) → Contains cs c → Contains cs e → c ≢ e → Contains (f c) q → Contains (f e) q → ⊥) → Once (flat_map f cs)
flat_once f [] one each apart = tt
flat_once f (c ∷ cs) one each apart =
    once_append (f c) (flat_map f cs) (each c (in_head c cs))
    (flat_once f cs one.1 (λ e h. each e (in_tail c cs e h)) (λ d e q h h'. apart d e q (in_tail c cs d h) (in_tail c cs e h')))
    (λ q left right.
    let r = in_flat f cs q right in
    apart c r.0 q (in_head c cs) (in_tail c cs r.0 r.1) (λ same. one.0 (subst (λ v. Contains cs v) (sym same) r.1)) left r.2)
