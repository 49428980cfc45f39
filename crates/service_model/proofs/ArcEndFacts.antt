-- Arcs found by their ends.
use Rattle.std.proofs.Common.{◌≡◌, ℕ, ◌+◌, ◌<◌, Bool, true, false, ◌||◌, ◌&&◌, nat_eq, Some, List, [], ◌∷◌, ◌++◌, map, take, length, get_or, position, refl, sym, ap, subst, ◌∙◌, eqb-true, cond, arith}
use Rattle.std.specs.List.{list_any}
use Rattle.std.proofs.lemmas.Bool.{and_parts, false_from_ne_true}
use Rattle.std.proofs.lemmas.Bool.Decides.{nat_tests}
use Rattle.std.proofs.lemmas.List.{get_or-map, get_or-take, length-map, length-take, map_push, take_more}
use Rattle.std.proofs.lemmas.List.Folds.{list_any_none}
use Rattle.std.proofs.lemmas.List.Quantifiers.{position-Some}
use Rattle.service_model.specs.declared.stage.SupplyArc.{SupplyArc}
use Rattle.service_model.specs.Net.{Net, no_arc, arc_in}
use Rattle.service_model.specs.Faults.{IsSameEnds}
use Rattle.service_model.specs.Networks.{IsNetwork}
use Rattle.service_model.specs.Tables.{transit_in}
use Rattle.service_model.specs.ArcEnds.{ends_of, has_these}
use Rattle.service_model.proofs.ArcFacts.{other, transit_in-arc}

neither : (a b : Bool) → (a || b) ≡ false → (a ≡ false) × (b ≡ false)
neither true b holds = cc
neither false b holds = (refl, holds)

apart : (a : SupplyArc) (i j : ℕ) → has_these i j (ends_of a) ≡ false → (nat_eq a.supplier i && nat_eq a.customer j) ≡ false
apart a i j is = grind (arith, nat_tests)

-- no arc has these ends
pub transit_of_none : (arcs : List SupplyArc) (i j : ℕ) → list_any (has_these i j) (map ends_of arcs) ≡ false → transit_in arcs i j ≡ 0
transit_of_none [] i j none = refl
transit_of_none (a ∷ arcs) i j none =
    let parts = neither (has_these i j (ends_of a)) (list_any (has_these i j) (map ends_of arcs)) none in
    other (nat_eq a.supplier i && nat_eq a.customer j) a.transit (transit_in arcs i j) (λ is. let no = apart a i j parts.0 in cc)
    ∙ transit_of_none arcs i j parts.1

-- the arc at a place has these ends
pub transit_at_place : (n : Net) (i j k : ℕ) → IsNetwork n → position (has_these i j) (map ends_of n.arcs) ≡ Some k
    → transit_in n.arcs i j ≡ (arc_in n.arcs k).transit
transit_at_place n i j k valid at =
    let first = position-Some (has_these i j) (map ends_of n.arcs) k (0, 0) at in
    let within : k < length n.arcs = subst (λ m. k < m) (length-map n.arcs ends_of) first.0 in
    let there = get_or-map ends_of n.arcs k no_arc (0, 0) within in
    let these : has_these i j (ends_of (arc_in n.arcs k)) ≡ true = ap (has_these i j) (sym there) ∙ first.1 in
    let parts = and_parts (nat_eq i (arc_in n.arcs k).supplier) (nat_eq j (arc_in n.arcs k).customer) these in
    let supplier = eqb-true i (arc_in n.arcs k).supplier parts.0 in
    let customer = eqb-true j (arc_in n.arcs k).customer parts.1 in
    rw (supplier, customer) (transit_in-arc n k valid within)

-- the ends of the next arc are new
new_ends : (arcs : List SupplyArc) (k : ℕ) → ((a b : ℕ) → a < b → b < length arcs → IsSameEnds (arc_in arcs a) (arc_in arcs b) → ⊥) → k < length arcs
    → list_any (has_these (arc_in arcs k).supplier (arc_in arcs k).customer) (map ends_of (take k arcs)) ≡ false
new_ends arcs k once within =
    let y = arc_in arcs k in
    list_any_none (has_these y.supplier y.customer) (map ends_of (take k arcs)) (λ i d inside.
    false_from_ne_true (has_these y.supplier y.customer (get_or (map ends_of (take k arcs)) i d)) (λ is.
    let low : i < k = omega (arith, inside, length-map (take k arcs) ends_of, length-take k arcs) in
    let short : i < length (take k arcs) = subst (λ m. i < m) (length-map (take k arcs) ends_of) inside in
    let there = get_or-map ends_of (take k arcs) i no_arc d short ∙ ap ends_of (get_or-take k arcs i no_arc low) in
    let parts = and_parts (nat_eq y.supplier (arc_in arcs i).supplier) (nat_eq y.customer (arc_in arcs i).customer) (ap (has_these y.supplier y.customer) (sym there) ∙ is) in
    once i k low within (sym (eqb-true y.supplier (arc_in arcs i).supplier parts.0), sym (eqb-true y.customer (arc_in arcs i).customer parts.1))))

-- so the ends of one more arc stand behind the others
pub ends_more : (arcs : List SupplyArc) (k : ℕ) (pairs more : List (ℕ × ℕ)) → ((a b : ℕ) → a < b → b < length arcs → IsSameEnds (arc_in arcs a) (arc_in arcs b) → ⊥) → k < length arcs
    → pairs ≡ map ends_of (take k arcs)
    → more ≡ cond (list_any (has_these (arc_in arcs k).supplier (arc_in arcs k).customer) pairs) pairs (pairs ++ ends_of (arc_in arcs k) ∷ [])
    → more ≡ map ends_of (take (k + 1) arcs)
ends_more arcs k pairs more once within so next =
    next ∙ rw (so, new_ends arcs k once within, take_more arcs k no_arc within, map_push) refl
