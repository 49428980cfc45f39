-- What holds of the members of a list.
use Rattle.std.proofs.Common.{◌≡◌, ℕ, List, [], ◌∷◌, ◌++◌, map, refl, ap, ◌∙◌}
use Rattle.std.specs.Prelude.{Contains}
use Rattle.std.specs.List.{flat_map, AllByRecursion}
use Rattle.std.proofs.lemmas.List.{map-append}
use Rattle.std.proofs.lemmas.List.Elements.{All-contains, All-contains_itself, All-from_recursion, recursion_from_All}
use Rattle.gsm_laws.proofs.ElementFacts.{each}

-- what holds of each member
pub each_member : (P : ℕ → Type 0) (xs : List ℕ) → ((x : ℕ) → Contains xs x → P x) → AllByRecursion P xs
each_member P xs holds = each (Contains xs) P holds xs (recursion_from_All (Contains xs) xs (All-contains_itself xs))

pub of_member : (P : ℕ → Type 0) (xs : List ℕ) (x : ℕ) → AllByRecursion P xs → Contains xs x → P x
of_member P xs x all inside = All-contains P xs x (All-from_recursion P xs all) inside

-- what holds of the numbers of members
pub of_number : (P : ℕ → Type 0) (g : ℕ → ℕ) (xs : List ℕ) (x : ℕ) → AllByRecursion P (map g xs) → Contains xs x → P (g x)
of_number P g xs x all inside = of_member (λ y. P (g y)) xs x (back xs all) inside
  where
    back : (ys : List ℕ) → AllByRecursion P (map g ys) → AllByRecursion (λ y. P (g y)) ys
    back [] rest = tt
    back (y ∷ ys) rest = (rest.0, back ys rest.1)

-- lists that members stand for, under a map
pub map-flat_map : (g : ℕ → ℕ) (f h : ℕ → List ℕ) (num : ℕ → ℕ) (cs : List ℕ) → AllByRecursion (λ c. map g (f (num c)) ≡ h c) cs
    → map g (flat_map f (map num cs)) ≡ flat_map h cs
map-flat_map g f h num [] same = refl
map-flat_map g f h num (c ∷ cs) same =
    map-append g (f (num c)) (flat_map f (map num cs))
    ∙ ap (λ (ks : List ℕ). ks ++ map g (flat_map f (map num cs))) same.0
    ∙ ap (λ (ks : List ℕ). h c ++ ks) (map-flat_map g f h num cs same.1)
