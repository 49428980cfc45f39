-- Names that begin with another, and with a mark behind it.
use Rattle.std.proofs.Common.{◌≡◌, ℕ, nat_eq, Bool, true, false, ◌&&◌, List, [], ◌∷◌, ◌++◌, length, take, drop, refl, sym, arith}
use Rattle.std.specs.List.{starts_with}
use Rattle.std.specs.Cmp.Lexicographic.{pointwise}
use Rattle.std.proofs.lemmas.Bool.Decides.{nat_tests, Decides-eqb}
use Rattle.std.proofs.lemmas.Slice.Eq.{starts_is}

either_order : (a b : ℕ) → nat_eq a b ≡ nat_eq b a
either_order a b = grind (arith, nat_tests)

one_test : (here swapped : Bool) (whole front back : Bool) → here ≡ swapped → whole ≡ (front && back) → (here && whole) ≡ ((swapped && front) && back)
one_test true swapped whole front back same parts = rw (sym same) parts
one_test false swapped whole front back same parts = rw (sym same) refl

-- a list begins with another and a mark where it begins with the other and goes on with the mark
pub begins_behind : (front file mark : List ℕ) → starts_with nat_eq file (front ++ mark) ≡ (pointwise nat_eq (take (length front) file) front && starts_with nat_eq (drop (length front) file) mark)
begins_behind [] file mark = refl
begins_behind (n ∷ front) [] mark = refl
begins_behind (n ∷ front) (f ∷ file) mark =
    one_test (nat_eq n f) (nat_eq f n) (starts_with nat_eq file (front ++ mark)) (pointwise nat_eq (take (length front) file) front) (starts_with nat_eq (drop (length front) file) mark)
    (either_order n f) (begins_behind front file mark)

-- the front was taken away, and what is left was tested for the mark
pub begins_here : (front file mark part whole rest : List ℕ) (r : Bool) → part ≡ front → whole ≡ file → pointwise nat_eq (take (length part) whole) part ≡ true → rest ≡ drop (length part) whole → r ≡ starts_with nat_eq rest mark
    → r ≡ starts_with nat_eq file (front ++ mark)
begins_here front file mark part whole rest r named read here left tested =
    let fits : pointwise nat_eq (take (length front) file) front ≡ true = rw (sym named, sym read) here in
    let behind : rest ≡ drop (length front) file = rw (sym named, sym read) left in
    rw (begins_behind front file mark, fits, sym behind) tested

-- the front does not stand there
pub begins_otherwise : (front file mark part whole : List ℕ) → part ≡ front → whole ≡ file → pointwise nat_eq (take (length part) whole) part ≡ false → false ≡ starts_with nat_eq file (front ++ mark)
begins_otherwise front file mark part whole named read other =
    let differs : pointwise nat_eq (take (length front) file) front ≡ false = rw (sym named, sym read) other in
    rw (begins_behind front file mark, differs) refl

-- what follows a list leaves it at the beginning
pub begins_with_front : (front rest : List ℕ) → starts_with nat_eq (front ++ rest) front ≡ true
begins_with_front front rest = (starts_is Decides-eqb (front ++ rest) front (starts_with nat_eq (front ++ rest) front) refl).1 rest refl
