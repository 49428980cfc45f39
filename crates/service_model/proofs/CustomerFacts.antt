-- The customers of a stage are those to which an arc leads.
use Rattle.std.proofs.Common.{ℕ, zero, suc, ◌≡◌, ◌+◌, ◌<◌, ◌==◌, cond, List, [], ◌∷◌, ◌++◌, length, get_or, set, take, refl, sym, ap, ◌∙◌, subst, inl, inr, ⊎_elim, arith}
use Rattle.std.specs.Prelude.{All, Contains, ◌⊎◌}
use Rattle.std.proofs.lemmas.Bool.{cases_eq, eq-eqb, ne_eqb}
use Rattle.std.proofs.lemmas.List.{length-set, get_or-set_same, get_or-set_other, take_more, append-nil}
use Rattle.std.proofs.lemmas.List.Elements.{Contains-get_or}
use Rattle.service_model.specs.declared.stage.SupplyArc.{SupplyArc}
use Rattle.service_model.specs.Net.{no_arc, arc_in}
use Rattle.service_model.specs.Walks.{Leads}
use Rattle.service_model.specs.Customers.{HasEnds, HasCustomers, customers_in}

pub in_cons : (x : ℕ) (xs : List ℕ) (j : ℕ) → Contains (x ∷ xs) j → (x ≡ j) ⊎ Contains xs j
in_cons x xs j (zero, low, is) = inl is
in_cons x xs j (suc k, low, is) = inr (k, omega (arith, low), is)

pub in_tail : (x : ℕ) (xs : List ℕ) (j : ℕ) → Contains xs j → Contains (x ∷ xs) j
in_tail x xs j l = (suc l.0, omega (arith, l.1), l.2)

-- the customers of i are those to whom an arc leads
pub lead_later : (a : SupplyArc) (arcs : List SupplyArc) (i j : ℕ) → Leads arcs i j → Leads (a ∷ arcs) i j
lead_later a arcs i j l = (suc l.0, omega (arith, l.1), l.2, l.3)

customers_yes : (a : SupplyArc) (arcs : List SupplyArc) (i : ℕ) → a.supplier ≡ i → customers_in (a ∷ arcs) i ≡ a.customer ∷ customers_in arcs i
customers_yes a arcs i same = ap (λ b. cond b (a.customer ∷ customers_in arcs i) (customers_in arcs i)) (eq-eqb a.supplier i same)

customers_no : (a : SupplyArc) (arcs : List SupplyArc) (i : ℕ) → (a.supplier ≡ i → ⊥) → customers_in (a ∷ arcs) i ≡ customers_in arcs i
customers_no a arcs i other = ap (λ b. cond b (a.customer ∷ customers_in arcs i) (customers_in arcs i)) (ne_eqb a.supplier i other)

pub customers_lead : (arcs : List SupplyArc) (i j : ℕ) → Contains (customers_in arcs i) j → Leads arcs i j
customers_lead [] i j inside = absurd (omega (arith, inside.1))
customers_lead (a ∷ arcs) i j inside =
    let rest : Contains (customers_in arcs i) j → Leads (a ∷ arcs) i j = λ h. lead_later a arcs i j (customers_lead arcs i j h) in
    ⊎_elim
    (λ same. ⊎_elim (λ is. (0, omega arith, same, is)) rest
    (in_cons a.customer (customers_in arcs i) j (subst (λ xs. Contains xs j) (customers_yes a arcs i same) inside)))
    (λ other. rest (subst (λ xs. Contains xs j) (customers_no a arcs i other) inside))
    (cases_eq a.supplier i)

pub leads_customers : (arcs : List SupplyArc) (i j : ℕ) → Leads arcs i j → Contains (customers_in arcs i) j
leads_customers [] i j l = absurd (omega (arith, l.1))
leads_customers (a ∷ arcs) i j (zero, low, s, c) =
    subst (λ xs. Contains xs j) (sym (customers_yes a arcs i s)) (0, omega arith, c)
leads_customers (a ∷ arcs) i j (suc k, low, s, c) =
    let rest = leads_customers arcs i j (k, omega (arith, low), s, c) in
    ⊎_elim
    (λ same. subst (λ xs. Contains xs j) (sym (customers_yes a arcs i same)) (in_tail a.customer (customers_in arcs i) j rest))
    (λ other. subst (λ xs. Contains xs j) (sym (customers_no a arcs i other)) rest)
    (cases_eq a.supplier i)

pub customers_push : (arcs : List SupplyArc) (a : SupplyArc) (i : ℕ) → customers_in (arcs ++ a ∷ []) i ≡ customers_in arcs i ++ cond (a.supplier == i) (a.customer ∷ []) []
customers_push [] a i = refl
customers_push (b ∷ arcs) a i = ⊎_elim
    (λ same. customers_yes b (arcs ++ a ∷ []) i same ∙ ap (λ xs. b.customer ∷ xs) (customers_push arcs a i) ∙ ap (λ xs. xs ++ cond (a.supplier == i) (a.customer ∷ []) []) (sym (customers_yes b arcs i same)))
    (λ other. customers_no b (arcs ++ a ∷ []) i other ∙ customers_push arcs a i ∙ ap (λ xs. xs ++ cond (a.supplier == i) (a.customer ∷ []) []) (sym (customers_no b arcs i other)))
    (cases_eq b.supplier i)

-- one arc more in the lists
pub lists_more : (stages : ℕ) (arcs : List SupplyArc) (k : ℕ) (lists : List (List ℕ)) (row : List ℕ) → k < length arcs → HasEnds stages arcs → HasCustomers stages (take k arcs) lists
    → row ≡ get_or lists (arc_in arcs k).supplier [] ++ (arc_in arcs k).customer ∷ [] → HasCustomers stages (take (k + 1) arcs) (set lists (arc_in arcs k).supplier row)
lists_more stages arcs k lists row inside ends so is =
    let a = arc_in arcs k in
    let s = (arc_in arcs k).supplier in
    let low : (arc_in arcs k).supplier < stages = (ends k no_arc inside).0 in
    record {
      long = length-set lists s row ∙ so.long;
      each = λ i within. ⊎_elim
          (λ same.
          let e : get_or (set lists s row) i [] ≡ row = ap (λ n. get_or (set lists s row) n []) same ∙ get_or-set_same lists s row [] (omega (arith, low, so.long)) in
          e ∙ is ∙ ap (λ xs. xs ++ a.customer ∷ []) (so.each s low)
          ∙ ap (λ xs. customers_in (take k arcs) s ++ xs) (sym (ap (λ b. cond b (a.customer ∷ []) []) (eq-eqb s s refl)))
          ∙ sym (customers_push (take k arcs) a s) ∙ ap (λ n. customers_in (take k arcs ++ a ∷ []) n) (sym same)
          ∙ ap (λ bs. customers_in bs i) (sym (take_more arcs k no_arc inside)))
          (λ other.
          get_or-set_other lists s i row [] other ∙ so.each i within
          ∙ sym (append-nil (customers_in (take k arcs) i))
          ∙ ap (λ xs. customers_in (take k arcs) i ++ xs) (sym (ap (λ b. cond b (a.customer ∷ []) []) (ne_eqb s i (λ e. other (sym e)))))
          ∙ sym (customers_push (take k arcs) a i)
          ∙ ap (λ bs. customers_in bs i) (sym (take_more arcs k no_arc inside)))
          (cases_eq i s);
    }

pub customers_there : (stages : ℕ) (arcs : List SupplyArc) (i : ℕ) → HasEnds stages arcs → All (λ c. c < stages) (customers_in arcs i)
customers_there stages arcs i ends k d inside =
    let l = customers_lead arcs i (get_or (customers_in arcs i) k d) (Contains-get_or (customers_in arcs i) k d inside) in
    subst (λ x. x < stages) l.3 (ends l.0 no_arc l.1).1
