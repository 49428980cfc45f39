-- Arcs and neighbours; which arc or place is the first.
use Rattle.std.proofs.Common.{ℕ, zero, suc, ◌≡◌, ◌<◌, ◌≤◌, List, length, get_or, sym, ◌∙◌, subst, inl, inr, ⊎_elim, refl, arith}
use Rattle.std.specs.Prelude.{◌⊎◌}
use Rattle.std.proofs.lemmas.Bool.{cases_eq, cases_lt}
use Rattle.std.proofs.lemmas.List.{get_or_default}
use Rattle.service_model.specs.declared.stage.SupplyArc.{SupplyArc}
use Rattle.service_model.specs.Net.{Net, arc_in, no_arc}
use Rattle.service_model.specs.Walks.{Leads}
use Rattle.service_model.specs.Networks.{IsNetwork}
use Rattle.service_model.specs.Forests.{Joins, AreNeighbours}
use Rattle.tree_order.specs.Links.{JoinsStages}

pub joins_back : (a : SupplyArc) (x y : ℕ) → Joins a x y → Joins a y x
joins_back a x y (inl there) = inr there
joins_back a x y (inr back) = inl back

pub neighbours_back : (arcs : List SupplyArc) (x y : ℕ) → AreNeighbours arcs x y → AreNeighbours arcs y x
neighbours_back arcs x y (a, arc, joins) = (a, arc, joins_back (arc_in arcs a) x y joins)

-- what the rules on networks say of arcs

pub joins_stages : (n : Net) → IsNetwork n → JoinsStages (length n.stages) n.arcs
joins_stages n valid = λ a d inside.
    let arc = valid.arcs a inside in
    let is = get_or_default n.arcs a no_arc d inside in
    subst (λ (v : SupplyArc). (v.supplier < length n.stages) × (v.customer < length n.stages) × (v.supplier ≡ v.customer → ⊥)) is (arc.supplier, arc.customer, arc.apart)

-- no two arcs join the same two stages
abbrev pub OneArc : List SupplyArc → Type 0
OneArc arcs = (a b x y : ℕ) → a < length arcs → b < length arcs → Joins (arc_in arcs a) x y → Joins (arc_in arcs b) x y → a ≡ b

-- no arc leads back
pub one_way : (n : Net) → IsNetwork n → (x y : ℕ) → x < length n.stages → Leads n.arcs x y → Leads n.arcs y x → ⊥
one_way n valid x y low there back = valid.acyclic x low (1, (y, (x, refl, there), back))

same_way : (n : Net) → IsNetwork n → (a b x y : ℕ) → a < length n.arcs → b < length n.arcs → ((arc_in n.arcs a).supplier ≡ x) × ((arc_in n.arcs a).customer ≡ y)
    → ((arc_in n.arcs b).supplier ≡ x) × ((arc_in n.arcs b).customer ≡ y) → a ≡ b
same_way n valid a b x y inside inside' ends ends' = ⊎_elim
    (λ less. absurd (valid.once a b less inside' (ends.0 ∙ sym ends'.0, ends.1 ∙ sym ends'.1)))
    (λ past. ⊎_elim
    (λ more. absurd (valid.once b a more inside (ends'.0 ∙ sym ends.0, ends'.1 ∙ sym ends.1)))
    (λ not_more. omega (arith, past, not_more))
    (cases_lt b a))
    (cases_lt a b)

pub one_arc : (n : Net) → IsNetwork n → OneArc n.arcs
one_arc n valid a b x y inside inside' (inl ends) (inl ends') = same_way n valid a b x y inside inside' ends ends'
one_arc n valid a b x y inside inside' (inl ends) (inr ends') =
    absurd (one_way n valid x y (subst (λ v. v < length n.stages) ends.0 (valid.arcs a inside).supplier) (a, inside, ends.0, ends.1) (b, inside', ends'.0, ends'.1))
one_arc n valid a b x y inside inside' (inr ends) (inl ends') =
    absurd (one_way n valid x y (subst (λ v. v < length n.stages) ends'.0 (valid.arcs b inside').supplier) (b, inside', ends'.0, ends'.1) (a, inside, ends.0, ends.1))
one_arc n valid a b x y inside inside' (inr ends) (inr ends') = same_way n valid a b y x inside inside' ends ends'

-- what is first, or that there is none

pub cases_joins : (a : SupplyArc) (x y : ℕ) → Joins a x y ⊎ (Joins a x y → ⊥)
cases_joins a x y = ⊎_elim
    (λ j. inl j)
    (λ one. ⊎_elim
    (λ j. inl j)
    (λ two. inr (λ j. ⊎_elim one two j))
    (⊎_elim
    (λ s. ⊎_elim (λ c. inl (inr (s, c))) (λ c. inr (λ both. c both.1)) (cases_eq a.customer x))
    (λ s. inr (λ both. s both.0))
    (cases_eq a.supplier y)))
    (⊎_elim
    (λ s. ⊎_elim (λ c. inl (inl (s, c))) (λ c. inr (λ both. c both.1)) (cases_eq a.customer y))
    (λ s. inr (λ both. s both.0))
    (cases_eq a.supplier x))

-- the first of the first n arcs that join x and y
pub record IsFirstArc (arcs : List SupplyArc) (n x y a : ℕ) : Type 0 where
  pub low : a < n
  pub joins : Joins (arc_in arcs a) x y
  pub first : (b : ℕ) → Joins (arc_in arcs b) x y → a ≤ b

pub find_arc : (arcs : List SupplyArc) (n x y : ℕ) → ((b : ℕ) → b < n → Joins (arc_in arcs b) x y → ⊥) ⊎ ((a : ℕ) × IsFirstArc arcs n x y a)
find_arc arcs zero x y = inl (λ b low. absurd (omega arith))
find_arc arcs (suc n) x y = ⊎_elim
    (λ none. ⊎_elim
    (λ here. inr (
      n,
      record { low = omega arith; joins = here; first = λ b j. ⊎_elim (λ low. absurd (none b low j)) (λ high. high) (cases_lt b n) },
    ))
    (λ not_here. inl (λ b low j. ⊎_elim
    (λ less. none b less j)
    (λ last. let is : b ≡ n = omega (arith, low, last) in not_here (subst (λ v. Joins (arc_in arcs v) x y) is j))
    (cases_lt b n)))
    (cases_joins (arc_in arcs n) x y))
    (λ found. inr (found.0, record { low = omega (arith, found.1.low); joins = found.1.joins; first = found.1.first }))
    (find_arc arcs n x y)

-- the first of the first n places with a neighbour of y, and the first arc between the two
pub record IsFirstPlace (arcs : List SupplyArc) (seen : List ℕ) (n y p a : ℕ) : Type 0 where
  pub low : p < n
  pub arc : IsFirstArc arcs (length arcs) (get_or seen p 0) y a
  pub first : (q : ℕ) → q < p → AreNeighbours arcs (get_or seen q 0) y → ⊥

pub find_place : (arcs : List SupplyArc) (seen : List ℕ) (n y : ℕ) → ((p : ℕ) → p < n → AreNeighbours arcs (get_or seen p 0) y → ⊥) ⊎ ((p : ℕ) × (a : ℕ) × IsFirstPlace arcs seen n y p a)
find_place arcs seen zero y = inl (λ p low. absurd (omega arith))
find_place arcs seen (suc n) y = ⊎_elim
    (λ none. ⊎_elim
    (λ no_arcs. inl (λ p low j. ⊎_elim
    (λ less. none p less j)
    (λ last. let is : p ≡ n = omega (arith, low, last) in no_arcs j.0 j.1 (subst (λ v. Joins (arc_in arcs j.0) (get_or seen v 0) y) is j.2))
    (cases_lt p n)))
    (λ found. inr (n, found.0, record { low = omega arith; arc = found.1; first = none }))
    (find_arc arcs (length arcs) (get_or seen n 0) y))
    (λ found. inr (found.0, found.1, record { low = omega (arith, found.2.low); arc = found.2.arc; first = found.2.first }))
    (find_place arcs seen n y)
