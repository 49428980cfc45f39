-- What holds of each element of a list, by recursion.
use Rattle.std.proofs.Common.{◌≡◌, ℕ, List, [], ◌∷◌, ◌++◌, map, refl}
use Rattle.std.specs.List.{flat_map, AllByRecursion}

pub each : {X : Type 0} (P Q : X → Type 0) → ((x : X) → P x → Q x) → (xs : List X) → AllByRecursion P xs → AllByRecursion Q xs
each P Q step [] all = tt
each P Q step (x ∷ xs) all = (step x all.0, each P Q step xs all.1)

pub each_two : {X : Type 0} (P Q R : X → Type 0) → ((x : X) → P x → Q x → R x) → (xs : List X) → AllByRecursion P xs → AllByRecursion Q xs
    → AllByRecursion R xs
each_two P Q R step [] all also = tt
each_two P Q R step (x ∷ xs) all also = (step x all.0 also.0, each_two P Q R step xs all.1 also.1)

-- of two lists, one after the other
pub all_append : {X : Type 0} (P : X → Type 0) (xs ys : List X) → AllByRecursion P (xs ++ ys) → AllByRecursion P xs × AllByRecursion P ys
all_append P [] ys all = (tt, all)
all_append P (x ∷ xs) ys all = let rest = all_append P xs ys all.1 in ((all.0, rest.0), rest.1)

pub all_both : {X : Type 0} (P : X → Type 0) (xs ys : List X) → AllByRecursion P xs → AllByRecursion P ys → AllByRecursion P (xs ++ ys)
all_both P [] ys all also = also
all_both P (x ∷ xs) ys all also = (all.0, all_both P xs ys all.1 also)

pub all_map : {X Y : Type 0} (P : Y → Type 0) (g : X → Y) (xs : List X) → AllByRecursion (λ x. P (g x)) xs → AllByRecursion P (map g xs)
all_map P g [] all = tt
all_map P g (x ∷ xs) all = (all.0, all_map P g xs all.1)

-- of the lists that each element stands for
pub all_concat : (P : ℕ → Type 0) (f : ℕ → List ℕ) (cs : List ℕ) → AllByRecursion (λ c. AllByRecursion P (f c)) cs → AllByRecursion P (flat_map f cs)
all_concat P f [] all = tt
all_concat P f (c ∷ cs) all = all_both P (f c) (flat_map f cs) all.0 (all_concat P f cs all.1)

pub all_parts : (P : ℕ → Type 0) (f : ℕ → List ℕ) (cs : List ℕ) → AllByRecursion P (flat_map f cs) → AllByRecursion (λ c. AllByRecursion P (f c)) cs
all_parts P f [] all = tt
all_parts P f (c ∷ cs) all = let parts = all_append P (f c) (flat_map f cs) all in (parts.0, all_parts P f cs parts.1)

pub flat_map_same : (f g : ℕ → List ℕ) (cs : List ℕ) → AllByRecursion (λ c. f c ≡ g c) cs → flat_map f cs ≡ flat_map g cs
flat_map_same f g [] same = refl
flat_map_same f g (c ∷ cs) same = let rest = flat_map_same f g cs same.1 in let first = same.0 in cc
