-- Going from a stage to its customers and on to theirs comes to an end where no stage reaches itself.
use Rattle.std.proofs.Common.{ℕ, zero, suc, ◌≡◌, ◌+◌, ◌<◌, true, eqb, List, [], ◌∷◌, length, sym, ◌∙◌, subst, inl, inr, ⊎_elim, arith}
use Rattle.std.specs.Prelude.{Contains, ◌⊎◌}
use Rattle.std.specs.List.{IsDistinct}
use Rattle.std.proofs.lemmas.Bool.{cases_Bool, both_ways, eqb-true, ne_eqb}
use Rattle.std.proofs.lemmas.Cmp.{nat_eq_equiv}
use Rattle.std.proofs.lemmas.List.{get_or_default}
use Rattle.std.proofs.lemmas.List.Elements.{recursion_from_All}
use Rattle.std.proofs.lemmas.Map.Steps.{length-le_from_distinct_below}
use Rattle.std.proofs.lemmas.Map.Views.{Contains-from_any, list_any-from_Contains}
use Rattle.service_model.specs.declared.stage.SupplyArc.{SupplyArc}
use Rattle.service_model.specs.Net.{no_arc}
use Rattle.service_model.specs.Walks.{Leads, Walk, NoCycle}
use Rattle.service_model.specs.Customers.{HasEnds}
use Rattle.service_model.specs.Waits.{is_taken}

exact : (x y : ℕ) → eqb x y ≡ true → x ≡ y
exact x y h = eqb-true x y h

pub cases_taken : (xs : List ℕ) (i : ℕ) → Contains xs i ⊎ (Contains xs i → ⊥)
cases_taken xs i = elim (cases_Bool (is_taken xs i)) [
  | inl is ↦ inl (Contains-from_any exact i xs is)
  | inr off ↦ inr (λ inside. both_ways _ off (list_any-from_Contains nat_eq_equiv i xs inside))
]

in_cons : (x : ℕ) (xs : List ℕ) (j : ℕ) → Contains (x ∷ xs) j → (x ≡ j) ⊎ Contains xs j
in_cons x xs j (zero, low, is) = inl is
in_cons x xs j (suc k, low, is) = inr (k, omega (arith, low), is)

none_distinct : IsDistinct eqb []
unfolding IsDistinct
none_distinct = tt

distinct_cons : (ts : List ℕ) (s : ℕ) → IsDistinct eqb ts → (Contains ts s → ⊥) → IsDistinct eqb (s ∷ ts)
unfolding IsDistinct
distinct_cons ts s old new =
    (recursion_from_All _ ts (λ k d inside. ne_eqb _ _ (λ same. new (k, inside, get_or_default ts k s d inside ∙ sym same))), old)

-- stages, each once, from which stage j is reached
record Trail (stages : ℕ) (arcs : List SupplyArc) (j : ℕ) (ts : List ℕ) : Type 0 where
  low : (q : ℕ) → Contains ts q → q < stages
  apart : IsDistinct eqb ts
  reach : (q : ℕ) → Contains ts q → (n : ℕ) × Walk arcs q j n

descend : (stages : ℕ) (arcs : List SupplyArc) (P : ℕ → Type 0) → HasEnds stages arcs → NoCycle stages arcs
    → ((j : ℕ) → j < stages → ((c : ℕ) → Leads arcs j c → P c) → P j)
    → (fuel j : ℕ) (ts : List ℕ) → stages < length ts + fuel → j < stages → Trail stages arcs j ts → P j
descend stages arcs P ends acyclic step zero j ts much low trail =
    absurd (omega (arith, much, length-le_from_distinct_below ts stages trail.apart (λ q is. trail.low q (Contains-from_any exact q ts is))))
descend stages arcs P ends acyclic step (suc fuel) j ts much low trail =
    step j low (λ c lead.
    let within : c < stages = subst (λ y. y < stages) lead.3 (ends lead.0 no_arc lead.1).1 in
    ⊎_elim
    (λ met. let w = trail.reach c met in absurd (acyclic c within (w.0, (j, w.1, lead))))
    (λ fresh. descend stages arcs P ends acyclic step fuel c (c ∷ ts) (omega (arith, much)) within (record {
      low = λ q h. ⊎_elim (λ same. subst (λ y. y < stages) same within) (trail.low q) (in_cons c ts q h);
      apart = distinct_cons ts c trail.apart fresh;
      reach = λ q h. ⊎_elim (λ same. (0, sym same)) (λ old. let w = trail.reach q old in (suc w.0, (j, w.1, lead))) (in_cons c ts q h);
    }))
    (cases_taken ts c))

-- what holds of a stage where it holds of its customers holds of each stage
pub downstream : (stages : ℕ) (arcs : List SupplyArc) (P : ℕ → Type 0) → HasEnds stages arcs → NoCycle stages arcs
    → ((j : ℕ) → j < stages → ((c : ℕ) → Leads arcs j c → P c) → P j) → (j : ℕ) → j < stages → P j
downstream stages arcs P ends acyclic step j low =
    descend stages arcs P ends acyclic step (suc stages) j [] (omega arith) low (record {
      low = λ q h. absurd (omega (arith, h.1));
      apart = none_distinct;
      reach = λ q h. absurd (omega (arith, h.1));
    })
