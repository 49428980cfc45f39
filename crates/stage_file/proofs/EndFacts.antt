-- Among records whose ends are stages, equal names are equal numbers.
use Rattle.std.proofs.Common.{◌≡◌, ℕ, ◌&&◌, ◌||◌, Bool, true, false, nat_eq, List, [], ◌∷◌, get_or, Option, Some, None, is_none, unwrap_or, refl, sym, ap, ◌∙◌, eq-eqb}
use Rattle.std.proofs.Math.Bool.{and-false}
use Rattle.std.proofs.lemmas.Bool.{eqb-true}
use Rattle.std.proofs.lemmas.List.Quantifiers.{position-Some}
use Rattle.std.proofs.lemmas.Slice.Eq.{bytes_eq-Decides}
use Rattle.std.specs.List.{list_any}
use Rattle.std.specs.Str.{bytes_eq}
use Rattle.stage_file.specs.declared.ends.Ends.{Ends}
use Rattle.stage_file.specs.Records.{Numbered, field_in}
use Rattle.stage_file.specs.Arcs.{place_of, has_ends}
use Rattle.stage_file.specs.Ends.{has_same_ends, joined, ends_in, is_among, HaveEnds}

-- the name at a name's place
pub name_at : (names : List (List ℕ)) (name : List ℕ) (k : ℕ) → place_of names name ≡ Some k → name ≡ get_or names k []
name_at names name k found = (bytes_eq-Decides name (get_or names k [])).0 (position-Some (bytes_eq name) names k [] found).1

-- names at one place are equal
pub equal_names : (names : List (List ℕ)) (f g : List ℕ) (j k : ℕ) → place_of names f ≡ Some j → place_of names g ≡ Some k → j ≡ k → f ≡ g
equal_names names f g j k at_f at_g places = name_at names f j at_f ∙ ap (λ (n : ℕ). get_or names n []) places ∙ sym (name_at names g k at_g)

-- a place is k
abbrev pub is_at : ℕ → Option ℕ → Bool
is_at k None = false
is_at k (Some j) = nat_eq j k

differs : (names : List (List ℕ)) (f g : List ℕ) (j k : ℕ) (same : Bool) → place_of names f ≡ Some j → place_of names g ≡ Some k → bytes_eq f g ≡ false → nat_eq j k ≡ same → false ≡ same
differs names f g j k false at_f at_g apart e = refl
differs names f g j k true at_f at_g apart e =
    let found = (bytes_eq-Decides f g).1 (equal_names names f g j k at_f at_g (eqb-true j k e)) in
    cc

same_if : (names : List (List ℕ)) (f g : List ℕ) (k : ℕ) (same : Bool) (place : Option ℕ) → bytes_eq f g ≡ same → place_of names f ≡ place → place_of names g ≡ Some k → same ≡ is_at k place
same_if names f g k true place e at_f at_g =
    let equal : f ≡ g = (bytes_eq-Decides f g).0 e in
    let at : place ≡ Some k = sym at_f ∙ ap (place_of names) equal ∙ at_g in
    rw at (sym (eq-eqb k k refl))
same_if names f g k false None e at_f at_g = refl
same_if names f g k false (Some j) e at_f at_g = differs names f g j k (nat_eq j k) at_f at_g e refl

-- two names are equal where their places are, if the second has one
pub same_place : (names : List (List ℕ)) (f g : List ℕ) (k : ℕ) → place_of names g ≡ Some k → bytes_eq f g ≡ is_at k (place_of names f)
same_place names f g k at_g = same_if names f g k (bytes_eq f g) (place_of names f) refl refl at_g

-- both places are there
joined_places : (a b : Option ℕ) (e : Ends) → joined a b ≡ Some e → (a ≡ Some e.supplier) × (b ≡ Some e.customer)
joined_places (Some s) (Some c) e h = (cc, cc)
joined_places (Some s) None e h = cc
joined_places None c e h = cc

pub joined_found : (a b : Option ℕ) → is_none a ≡ false → is_none b ≡ false → joined a b ≡ Some (record { supplier = unwrap_or a 0; customer = unwrap_or b 0 })
joined_found (Some s) (Some c) here there = refl
joined_found (Some s) None here there = cc
joined_found None c here there = cc

-- some ends are these
abbrev are_ends : Ends → Option Ends → Bool
are_ends e None = false
are_ends e (Some found) = has_same_ends found e

joined_same : (a b : Option ℕ) (e : Ends) → (is_at e.supplier a && is_at e.customer b) ≡ are_ends e (joined a b)
unfolding has_same_ends
joined_same (Some s) (Some c) e = refl
joined_same (Some s) None e = and-false (nat_eq s e.supplier)
joined_same None b e = refl

-- a record whose ends are stages has the ends of another where their numbers are
same_ends : (names fields : List (List ℕ)) (r : Numbered) (e : Ends) → ends_in names r.fields ≡ Some e → has_ends fields r ≡ are_ends e (ends_in names fields)
unfolding ends_in has_ends
same_ends names fields r e found =
    let at = joined_places (place_of names (field_in r.fields 1)) (place_of names (field_in r.fields 2)) e found in
    let supplier = same_place names (field_in fields 1) (field_in r.fields 1) e.supplier at.0 in
    let customer = same_place names (field_in fields 2) (field_in r.fields 2) e.customer at.1 in
    rw (supplier, customer) (joined_same (place_of names (field_in fields 1)) (place_of names (field_in fields 2)) e)

among_none : (found : Option Ends) → false ≡ is_among found []
among_none None = refl
among_none (Some e) = refl

among_more : (found : Option Ends) (e : Ends) (all : List Ends) → (are_ends e found || is_among found all) ≡ is_among found (e ∷ all)
among_more None e all = refl
among_more (Some found) e all = refl

-- an earlier record has the same supplier and customer where the ends of the earlier records have them
pub twice_seen : (names fields : List (List ℕ)) (earlier : List Numbered) (all : List Ends) → HaveEnds names earlier all → list_any (has_ends fields) earlier ≡ is_among (ends_in names fields) all
twice_seen names fields [] [] have = among_none (ends_in names fields)
twice_seen names fields (r ∷ earlier) [] have = cc
twice_seen names fields [] (e ∷ all) have = cc
twice_seen names fields (r ∷ earlier) (e ∷ all) have =
    let first : ends_in names r.fields ≡ Some e = cc in
    let rest : HaveEnds names earlier all = cc in
    rw (same_ends names fields r e first, twice_seen names fields earlier all rest) (among_more (ends_in names fields) e all)
