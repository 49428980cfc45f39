-- The arcs at a stage, and their other ends.
use Rattle.std.proofs.Common.{ℕ, ◌≡◌, ◌+◌, ◌<◌, ◌==◌, Bool, true, false, cond, List, [], ◌∷◌, ◌++◌, length, get_or, set, sym, ap, ◌∙◌, inl, inr, ⊎_elim, arith}
use Rattle.std.proofs.lemmas.Bool.{cases_eq, eq-eqb, ne_eqb}
use Rattle.service_model.specs.declared.stage.SupplyArc.{SupplyArc}
use Rattle.service_model.specs.Net.{arc_in, no_arc}
use Rattle.service_model.specs.Forests.{Joins}
use Rattle.tree_order.specs.Links.{JoinsStages, Touches, other_end, HasLinks}
use Rattle.tree_order.proofs.PickFacts.{lists_more, pushed_at, long_pushed}

-- the lists with one arc more, put in at both of its ends
pub links_more : (stages : ℕ) (arcs : List SupplyArc) (n : ℕ) (lists one two : List (List ℕ)) → JoinsStages stages arcs → n < length arcs → HasLinks stages arcs n lists
    → one ≡ set lists (arc_in arcs n).supplier (get_or lists (arc_in arcs n).supplier [] ++ n ∷ [])
    → two ≡ set one (arc_in arcs n).customer (get_or one (arc_in arcs n).customer [] ++ n ∷ [])
    → HasLinks stages arcs (n + 1) two
links_more stages arcs n lists one two ends inside old is_one is_two =
    let s = (arc_in arcs n).supplier in
    let c = (arc_in arcs n).customer in
    let here = ends n no_arc inside in
    let long = long_pushed lists one s n is_one in
    let long' = long_pushed one two c n is_two in
    lists_more (λ x a. Touches (arc_in arcs a) x) stages n lists two old (long' ∙ long) (λ x within. ⊎_elim
    (λ at_c. ⊎_elim
    (λ at_s. absurd (here.2 (sym at_s.0 ∙ at_c.0)))
    (λ not_s. inl (inr (sym at_c.0), at_c.1 ∙ ap (λ v. v ++ n ∷ []) not_s.1))
    (pushed_at lists one s n (omega (arith, here.0, old.long)) is_one x))
    (λ not_c. ⊎_elim
    (λ at_s. inl (inl (sym at_s.0), not_c.1 ∙ at_s.1))
    (λ not_s. inr (λ h. ⊎_elim (λ t. not_s.0 (sym t)) (λ t. not_c.0 (sym t)) h, not_c.1 ∙ not_s.1))
    (pushed_at lists one s n (omega (arith, here.0, old.long)) is_one x))
    (pushed_at one two c n (omega (arith, here.1, long, old.long)) is_two x))

-- the other end of an arc that touches x is joined to x
pub other_joins : (a : SupplyArc) (x : ℕ) → Touches a x → Joins a x (other_end a x)
other_joins a x (inl is) = inl (is, sym (ap (λ b. cond b a.customer a.supplier) (eq-eqb a.supplier x is)))
other_joins a x (inr is) = ⊎_elim
    (λ same. inl (same, sym (ap (λ b. cond b a.customer a.supplier) (eq-eqb a.supplier x same))))
    (λ other. inr (sym (ap (λ b. cond b a.customer a.supplier) (ne_eqb a.supplier x other)), is))
    (cases_eq a.supplier x)

-- what an arc joins to x is its other end
pub other_is : (a : SupplyArc) (x z : ℕ) → (a.supplier ≡ a.customer → ⊥) → Joins a x z → z ≡ other_end a x
other_is a x z apart (inl (from, to)) = sym to ∙ sym (ap (λ b. cond b a.customer a.supplier) (eq-eqb a.supplier x from))
other_is a x z apart (inr (from, to)) = sym from ∙ sym (ap (λ b. cond b a.customer a.supplier) (ne_eqb a.supplier x (λ bad. apart (bad ∙ sym to))))

pub joins_touch : (a : SupplyArc) (x y : ℕ) → Joins a x y → Touches a x
joins_touch a x y (inl (from, to)) = inl from
joins_touch a x y (inr (from, to)) = inr to

cond_low : (b : Bool) (u v n : ℕ) → u < n → v < n → cond b u v < n
cond_low true u v n p q = p
cond_low false u v n p q = q

pub end_low : (stages : ℕ) (arcs : List SupplyArc) (a x : ℕ) → JoinsStages stages arcs → a < length arcs → other_end (arc_in arcs a) x < stages
end_low stages arcs a x ends inside =
    let e = ends a no_arc inside in
    cond_low ((arc_in arcs a).supplier == x) (arc_in arcs a).customer (arc_in arcs a).supplier stages e.1 e.0

-- a stage that an arc joins to another is one of the stages
pub joined_low : (stages : ℕ) (arcs : List SupplyArc) (a x y : ℕ) → JoinsStages stages arcs → a < length arcs → Joins (arc_in arcs a) x y → y < stages
joined_low stages arcs a x y ends inside (inl (from, to)) = omega (arith, to, (ends a no_arc inside).1)
joined_low stages arcs a x y ends inside (inr (from, to)) = omega (arith, from, (ends a no_arc inside).0)
