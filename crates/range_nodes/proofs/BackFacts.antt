-- Roots from the last to the first: the same bound, and the same tables at or below them.
use Rattle.std.proofs.Common.{◌≡◌, ◌≢◌, ℕ, List, [], ◌∷◌, ◌++◌, reverse, get_or, map, sym, ap, ◌∙◌, subst, ⊎_elim}
use Rattle.std.specs.Prelude.{Contains}
use Rattle.std.specs.List.{flat_map, AllByRecursion}
use Rattle.std.proofs.lemmas.List.{append-nil, map-append}
use Rattle.std.proofs.lemmas.List.Elements.{Contains-append_left, Contains-append_right, Contains-append_cases}
use Rattle.std.proofs.lemmas.List.Sorted.{IsPermutation-reverse, sum_by-IsPermutation}
use Rattle.std.proofs.lemmas.Grind.{flat_map-append, reverse_onto}
use Rattle.service_model.specs.declared.table.Table.{Table}
use Rattle.service_model.specs.Tables.{table_at}
use Rattle.service_model.specs.LocalSums.{capped}
use Rattle.service_model.specs.Nodes.{below, below_roots, bound_of, IsOnce}
use Rattle.gsm_laws.specs.Traces.{IsAbsent}
use Rattle.gsm_laws.proofs.ElementFacts.{each, each_two, all_both, all_parts, all_concat}
use Rattle.gsm_laws.proofs.AgreeFacts.{Apart, apart_append, apart_from_once, once_from_apart}

pub bound_back : (tables : List Table) (roots : List ℕ) → bound_of tables (reverse roots) ≡ bound_of tables roots
bound_back tables roots =
    ap capped (sum_by-IsPermutation (λ k. get_or (table_at tables k).values 0 0) roots (reverse roots) (IsPermutation-reverse roots))

-- the first comes last
reverse-cons : (x : ℕ) (xs : List ℕ) → reverse (x ∷ xs) ≡ reverse xs ++ x ∷ []
reverse-cons x xs = reverse_onto xs x []

pub all_back : (P : ℕ → Type 0) (xs : List ℕ) → AllByRecursion P xs → AllByRecursion P (reverse xs)
all_back P [] all = tt
all_back P (x ∷ xs) all =
    subst (AllByRecursion P) (sym (reverse-cons x xs)) (all_both P (reverse xs) (x ∷ []) (all_back P xs all.1) (all.0, tt))

-- what holds at or below the roots holds there from the last root on
pub all_below_back : (P : ℕ → Type 0) (f : ℕ → List ℕ) (xs : List ℕ) → AllByRecursion P (flat_map f xs) → AllByRecursion P (flat_map f (reverse xs))
all_below_back P f xs all = all_concat P f (reverse xs) (all_back (λ x. AllByRecursion P (f x)) xs (all_parts P f xs all))

always : (ys : List ℕ) → AllByRecursion (λ y. Unit {0}) ys
always [] = tt
always (y ∷ ys) = (tt, always ys)

-- what holds between two lists, told from either
all_swap : (R : ℕ → ℕ → Type 0) (xs ys : List ℕ) → AllByRecursion (λ x. AllByRecursion (R x) ys) xs
    → AllByRecursion (λ y. AllByRecursion (λ x. R x y) xs) ys
all_swap R [] ys all = always ys
all_swap R (x ∷ xs) ys all =
    each_two (R x) (λ y. AllByRecursion (λ z. R z y) xs) (λ y. AllByRecursion (λ z. R z y) (x ∷ xs)) (λ y here rest. (here, rest)) ys all.0
    (all_swap R xs ys all.1)

-- tables of different stages, behind others of different stages
apart_both : (tables : List Table) (xs ys : List ℕ) → Apart tables xs → Apart tables ys
    → AllByRecursion (λ k. IsAbsent tables (table_at tables k).stage ys) xs → Apart tables (xs ++ ys)
apart_both tables [] ys apart other away = other
apart_both tables (x ∷ xs) ys apart other away =
    (all_both (λ k. (table_at tables k).stage ≢ (table_at tables x).stage) xs ys apart.0 away.0, apart_both tables xs ys apart.1 other away.1)

-- what the first stands for comes last
flat_back : (f : ℕ → List ℕ) (x : ℕ) (xs : List ℕ) → flat_map f (reverse (x ∷ xs)) ≡ flat_map f (reverse xs) ++ f x
flat_back f x xs =
    ap (flat_map f) (reverse-cons x xs) ∙ flat_map-append f (reverse xs) (x ∷ []) ∙ ap (λ (ks : List ℕ). flat_map f (reverse xs) ++ ks) (append-nil (f x))

apart_back : (tables : List Table) (f : ℕ → List ℕ) (xs : List ℕ) → Apart tables (flat_map f xs) → Apart tables (flat_map f (reverse xs))
apart_back tables f [] apart = tt
apart_back tables f (x ∷ xs) apart =
    let stage = λ (k : ℕ). (table_at tables k).stage in
    let parts = apart_append tables (f x) (flat_map f xs) apart in
    let away = all_swap (λ k m. stage m ≢ stage k) (f x) (flat_map f xs) parts.2 in
    let turned = each (λ m. AllByRecursion (λ k. stage m ≢ stage k) (f x)) (λ m. IsAbsent tables (stage m) (f x))
    (λ m all. each (λ k. stage m ≢ stage k) (λ k. stage k ≢ stage m) (λ k differ same. differ (sym same)) (f x) all) (flat_map f xs) away in
    subst (Apart tables) (sym (flat_back f x xs))
    (apart_both tables (flat_map f (reverse xs)) (f x) (apart_back tables f xs parts.1) parts.0
    (all_below_back (λ m. IsAbsent tables (stage m) (f x)) f xs turned))

-- no stage stands twice, from the last root on
pub once_back : (tables : List Table) (roots : List ℕ) → IsOnce tables (below_roots tables roots) → IsOnce tables (below_roots tables (reverse roots))
once_back tables roots once =
    once_from_apart tables (below_roots tables (reverse roots))
    (apart_back tables (below tables) roots (apart_from_once tables (below_roots tables roots) once))

-- each stage stands at or below the roots, from the last root on
pub contains_back : (g : ℕ → ℕ) (f : ℕ → List ℕ) (xs : List ℕ) (j : ℕ) → Contains (map g (flat_map f xs)) j → Contains (map g (flat_map f (reverse xs))) j
contains_back g f [] j there = there
contains_back g f (x ∷ xs) j there =
    let front = map g (f x) in
    let rest = map g (flat_map f (reverse xs)) in
    let same : map g (flat_map f (reverse (x ∷ xs))) ≡ rest ++ front = ap (map g) (flat_back f x xs) ∙ map-append g (flat_map f (reverse xs)) (f x) in
    subst (λ (js : List ℕ). Contains js j) (sym same)
    (⊎_elim
    (λ first. Contains-append_right rest front j first)
    (λ later. Contains-append_left rest front j (contains_back g f xs j later))
    (Contains-append_cases front (map g (flat_map f xs)) j
    (subst (λ (js : List ℕ). Contains js j) (map-append g (f x) (flat_map f xs)) there)))
