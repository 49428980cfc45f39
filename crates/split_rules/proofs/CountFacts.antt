-- The children of the tables at or below roots are of different stages where those tables are.
use Rattle.std.proofs.Common.{◌≡◌, ◌≢◌, ℕ, zero, suc, ◌+◌, ◌<◌, ◌≤◌, cond, List, [], ◌∷◌, ◌++◌, length, refl, ap, subst, ⊎_elim, arith}
use Rattle.std.specs.Prelude.{All, ◌==◌}
use Rattle.std.specs.List.{flat_map, AllByRecursion}
use Rattle.std.proofs.lemmas.Bool.{cases_eq, eq-eqb, ne_eqb}
use Rattle.std.proofs.lemmas.List.Elements.{recursion_from_All}
use Rattle.std.proofs.lemmas.List.Concat.{flat_map-append}
use Rattle.service_model.specs.declared.table.Table.{Table}
use Rattle.service_model.specs.Net.{Net}
use Rattle.service_model.specs.Tables.{table_at}
use Rattle.service_model.specs.LocalSums.{Sound}
use Rattle.service_model.specs.Nodes.{below, below_within, below_roots, IsOnce, IsSoundAt}
use Rattle.gsm_laws.specs.Traces.{IsAbsent}
use Rattle.gsm_laws.proofs.ElementFacts.{each, each_two, all_parts}
use Rattle.gsm_laws.proofs.BelowFacts.{HasEarlier, earlier_from_sound, sound_everywhere}
use Rattle.gsm_laws.proofs.AgreeFacts.{Apart, apart_from_once}
use Rattle.split_rules.specs.Links.{children_of}

-- 1 where the table is of stage j
one : List Table → ℕ → ℕ → ℕ
one tables j k = cond ((table_at tables k).stage == j) 1 0

-- how many of the tables are of stage j
abbrev count : List Table → ℕ → List ℕ → ℕ
count tables j [] = 0
count tables j (k ∷ ks) = one tables j k + count tables j ks

one_same : (tables : List Table) (j k : ℕ) → (table_at tables k).stage ≡ j → one tables j k ≡ 1
unfolding one
one_same tables j k same = ap (λ b. cond b 1 0) (eq-eqb (table_at tables k).stage j same)

one_other : (tables : List Table) (j k : ℕ) → (table_at tables k).stage ≢ j → one tables j k ≡ 0
unfolding one
one_other tables j k other = ap (λ b. cond b 1 0) (ne_eqb (table_at tables k).stage j other)

count_append : (tables : List Table) (j : ℕ) (xs ys : List ℕ) → count tables j (xs ++ ys) ≡ count tables j xs + count tables j ys
count_append tables j [] ys = omega arith
count_append tables j (x ∷ xs) ys = let rest = count_append tables j xs ys in omega (arith, rest)

absent_none : (tables : List Table) (j : ℕ) (ks : List ℕ) → IsAbsent tables j ks → count tables j ks ≡ 0
absent_none tables j [] absent = refl
absent_none tables j (k ∷ ks) absent =
    let here = one_other tables j k absent.0 in let rest = absent_none tables j ks absent.1 in omega (arith, here, rest)

none_absent : (tables : List Table) (j : ℕ) (ks : List ℕ) → count tables j ks ≡ 0 → IsAbsent tables j ks
none_absent tables j [] none = tt
none_absent tables j (k ∷ ks) none = (
  λ same. let here = one_same tables j k same in absurd (omega (arith, here, none)),
  none_absent tables j ks (omega (arith, none)),
)

apart_few : (tables : List Table) (ks : List ℕ) → Apart tables ks → (j : ℕ) → count tables j ks ≤ 1
apart_few tables [] apart j = omega arith
apart_few tables (k ∷ ks) apart j = ⊎_elim
    (λ same.
    let here = one_same tables j k same in
    let rest : count tables j ks ≡ 0 = absent_none tables j ks (subst (λ s. IsAbsent tables s ks) same apart.0) in
    omega (arith, here, rest))
    (λ other. let here = one_other tables j k other in let rest = apart_few tables ks apart.1 j in omega (arith, here, rest))
    (cases_eq (table_at tables k).stage j)

few_apart : (tables : List Table) (ks : List ℕ) → ((j : ℕ) → count tables j ks ≤ 1) → Apart tables ks
few_apart tables [] few = tt
few_apart tables (k ∷ ks) few = (
  none_absent tables (table_at tables k).stage ks
      (let here = one_same tables (table_at tables k).stage k refl in let all = few (table_at tables k).stage in omega (arith, here, all)),
  few_apart tables ks (λ j. let all = few j in omega (arith, all)),
)

-- the children below each table of a list, and the list itself, are as many as what is at or below the list
count_list : (tables : List Table) (j : ℕ) (f : ℕ → List ℕ) (cs : List ℕ)
    → AllByRecursion (λ c. count tables j (children_of tables (f c)) + one tables j c ≡ count tables j (f c)) cs
    → count tables j (children_of tables (flat_map f cs)) + count tables j cs ≡ count tables j (flat_map f cs)
count_list tables j f [] each' = refl
count_list tables j f (c ∷ cs) each' =
    let rest = count_list tables j f cs each'.1 in
    let split = ap (count tables j) (flat_map-append (λ k. (table_at tables k).children) (f c) (flat_map f cs)) in
    let kids = count_append tables j (children_of tables (f c)) (children_of tables (flat_map f cs)) in
    let all = count_append tables j (f c) (flat_map f cs) in
    let here = each'.0 in
    omega (arith, rest, split, kids, all, here)

count_below : (tables : List Table) (j steps i : ℕ) → i < steps → AllByRecursion (HasEarlier tables) (below_within steps tables i)
    → count tables j (children_of tables (below_within steps tables i)) + one tables j i ≡ count tables j (below_within steps tables i)
count_below tables j zero i low earlier = absurd (omega arith)
count_below tables j (suc steps) i low earlier =
    let cs = (table_at tables i).children in
    let rest = count_list tables j (below_within steps tables) cs
    (each_two (λ c. c < i) (λ c. AllByRecursion (HasEarlier tables) (below_within steps tables c))
    (λ c. count tables j (children_of tables (below_within steps tables c)) + one tables j c ≡ count tables j (below_within steps tables c))
    (λ c less known. count_below tables j steps c (omega arith) known)
    cs earlier.0 (all_parts (HasEarlier tables) (below_within steps tables) cs earlier.1)) in
    let kids = count_append tables j cs (children_of tables (flat_map (below_within steps tables) cs)) in
    omega (arith, rest, kids)

pub children_apart : (n : Net) (tables : List Table) (roots : List ℕ) → Sound n tables → All (λ k. k < length tables) roots
    → IsOnce tables (below_roots tables roots) → Apart tables (children_of tables (below_roots tables roots))
children_apart n tables roots sound there once =
    few_apart tables (children_of tables (below_roots tables roots))
    (λ j.
    let all = count_list tables j (below tables) roots
    (each (λ k. k < length tables)
    (λ k. count tables j (children_of tables (below tables k)) + one tables j k ≡ count tables j (below tables k))
    (λ k low. count_below tables j (suc k) k (omega arith)
    (each (IsSoundAt n tables) (HasEarlier tables) (earlier_from_sound n tables) (below tables k) (sound_everywhere n tables k sound low)))
    roots (recursion_from_All (λ k. k < length tables) roots there)) in
    let few = apart_few tables (below_roots tables roots) (apart_from_once tables (below_roots tables roots) once) j in
    omega (arith, all, few))
