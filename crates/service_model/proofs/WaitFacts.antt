-- How many suppliers a stage waits for, as more stages are taken.
use Rattle.std.proofs.Common.{ℕ, ◌≡◌, ◌+◌, ◌-◌, ◌<◌, ◌≤◌, ◌==◌, Bool, true, false, not, cond, List, [], ◌∷◌, ◌++◌, length, get_or, set, take, refl, sym, ap, ◌∙◌, subst, inl, inr, ⊎_elim, arith}
use Rattle.std.specs.Prelude.{All, Contains, ◌&&◌, ◌||◌, count_by}
use Rattle.std.proofs.lemmas.Bool.{cases_eq, eqb-true, eq-eqb, ne_eqb}
use Rattle.std.proofs.lemmas.List.{length-set, get_or-set_same, get_or-set_other, take_more}
use Rattle.std.proofs.lemmas.List.Elements.{Contains-push, Contains-append_left, Contains-push_cases}
use Rattle.std.proofs.lemmas.List.Sums.{sum_by_more, sum_by-cons, count_by-le-length, sum_by_more_le, get_or-le-sum_by}
use Rattle.std.proofs.lemmas.List.Folds.{list_any-append}
use Rattle.service_model.specs.declared.stage.SupplyArc.{SupplyArc}
use Rattle.service_model.specs.Net.{no_arc, arc_in}
use Rattle.service_model.specs.Walks.{Leads}
use Rattle.service_model.specs.Customers.{HasEnds, customers_in}
use Rattle.service_model.specs.Waits.{is_taken, missing, IsInsertedIf, Released}
use Rattle.service_model.proofs.TakenFacts.{taken_from, taken_not, cases_taken}
use Rattle.service_model.proofs.CustomerFacts.{lead_later}

abbrev weight : List ℕ → ℕ → SupplyArc → ℕ
weight order j a = cond (not (is_taken order a.supplier) && (a.customer == j)) 1 0

abbrev pub here : ℕ → ℕ → ℕ
here j c = cond (c == j) 1 0

taken_push : (order : List ℕ) (i s : ℕ) → is_taken (order ++ i ∷ []) s ≡ (is_taken order s || (s == i))
taken_push order i s = list_any-append (λ k. s == k) order (i ∷ []) ∙ or_false (is_taken order s) (s == i)
  where
    or_false : (x y : Bool) → (x || (y || false)) ≡ (x || y)
    or_false true y = refl
    or_false false true = refl
    or_false false false = refl

-- what one arc weighs before and after
weight_same : (order : List ℕ) (i j : ℕ) (a : SupplyArc) → (a.supplier ≡ i → ⊥) → weight (order ++ i ∷ []) j a ≡ weight order j a
weight_same order i j a other =
    ap (λ b. cond (not b && (a.customer == j)) 1 0)
    (taken_push order i a.supplier ∙ ap (λ b. is_taken order a.supplier || b) (ne_eqb a.supplier i other) ∙ or_off (is_taken order a.supplier))
  where
    or_off : (x : Bool) → (x || false) ≡ x
    or_off true = refl
    or_off false = refl

weight_gone : (order : List ℕ) (i j : ℕ) (a : SupplyArc) → a.supplier ≡ i → weight (order ++ i ∷ []) j a ≡ 0
weight_gone order i j a same =
    ap (λ b. cond (not b && (a.customer == j)) 1 0) (taken_from (order ++ i ∷ []) a.supplier (subst (λ x. Contains (order ++ i ∷ []) x) (sym same) (Contains-push order i)))

weight_open : (order : List ℕ) (j : ℕ) (a : SupplyArc) → (Contains order a.supplier → ⊥) → weight order j a ≡ here j a.customer
weight_open order j a new = ap (λ b. cond (not b && (a.customer == j)) 1 0) (taken_not order a.supplier new)

weight_taken : (order : List ℕ) (j : ℕ) (a : SupplyArc) → Contains order a.supplier → weight order j a ≡ 0
weight_taken order j a inside = ap (λ b. cond (not b && (a.customer == j)) 1 0) (taken_from order a.supplier inside)

-- one stage more is taken: its arcs to j no longer wait
pub missing_push : (arcs : List SupplyArc) (order : List ℕ) (i j : ℕ) → (Contains order i → ⊥)
    → missing arcs (order ++ i ∷ []) j + count_by (λ c. c == j) (customers_in arcs i) ≡ missing arcs order j
missing_push [] order i j new = refl
missing_push (a ∷ arcs) order i j new =
    let rest = missing_push arcs order i j new in
    let before = sum_by-cons (weight order j) a arcs in
    let after = sum_by-cons (weight (order ++ i ∷ []) j) a arcs in
    ⊎_elim
    (λ same.
    let e : count_by (λ c. c == j) (customers_in (a ∷ arcs) i) ≡ here j a.customer + count_by (λ c. c == j) (customers_in arcs i) =
    ap (λ b. count_by (λ c. c == j) (cond b (a.customer ∷ customers_in arcs i) (customers_in arcs i))) (eq-eqb a.supplier i same) ∙ sum_by-cons (here j) a.customer (customers_in arcs i) in
    omega (arith, rest, before, after, e, weight_gone order i j a same, weight_open order j a (λ inside. new (subst (λ x. Contains order x) same inside))))
    (λ other.
    let e : count_by (λ c. c == j) (customers_in (a ∷ arcs) i) ≡ count_by (λ c. c == j) (customers_in arcs i) =
    ap (λ b. count_by (λ c. c == j) (cond b (a.customer ∷ customers_in arcs i) (customers_in arcs i))) (ne_eqb a.supplier i other) in
    omega (arith, rest, before, after, e, weight_same order i j a other))
    (cases_eq a.supplier i)

-- one arc more is counted
pub waits_more : (stages : ℕ) (arcs : List SupplyArc) (k : ℕ) (waits : List ℕ) → k < length arcs → HasEnds stages arcs → length waits ≡ stages
    → ((j : ℕ) → j < stages → get_or waits j 0 ≡ missing (take k arcs) [] j)
    → (j : ℕ) → j < stages → get_or (set waits (arc_in arcs k).customer (get_or waits (arc_in arcs k).customer 0 + 1)) j 0 ≡ missing (take (k + 1) arcs) [] j
waits_more stages arcs k waits inside ends long each j within =
    let c = (arc_in arcs k).customer in
    let low : (arc_in arcs k).customer < stages = (ends k no_arc inside).1 in
    let more = sum_by_more (weight [] j) arcs k no_arc inside in
    let old = each j within in
    ⊎_elim
    (λ same.
    let e : get_or (set waits c (get_or waits c 0 + 1)) j 0 ≡ get_or waits j 0 + 1 =
    ap (λ n. get_or (set waits c (get_or waits c 0 + 1)) n 0) same ∙ get_or-set_same waits c (get_or waits c 0 + 1) 0 (omega (arith, low, long)) ∙ ap (λ n. get_or waits n 0 + 1) (sym same) in
    let w : weight [] j (arc_in arcs k) ≡ 1 = ap (λ b. cond b 1 0) (eq-eqb c j (sym same)) in
    omega (arith, e, w, more, old))
    (λ other.
    let e = get_or-set_other waits c j (get_or waits c 0 + 1) 0 other in
    let w : weight [] j (arc_in arcs k) ≡ 0 = ap (λ b. cond b 1 0) (ne_eqb c j (λ s. other (sym s))) in
    omega (arith, e, w, more, old))
    (cases_eq j c)

-- a stage waits for none exactly where its suppliers are taken
pub missing_none : (arcs : List SupplyArc) (order : List ℕ) (j s : ℕ) → missing arcs order j ≡ 0 → Leads arcs s j → Contains order s
missing_none arcs order j s none l = ⊎_elim (λ inside. inside)
    (λ out.
    let a = arc_in arcs l.0 in
    let e : weight order j (arc_in arcs l.0) ≡ 1 =
    weight_open order j (arc_in arcs l.0) (λ inside. out (subst (λ x. Contains order x) l.2 inside)) ∙ ap (λ b. cond b 1 0) (eq-eqb (arc_in arcs l.0).customer j l.3) in
    absurd (omega (arith, e, none, get_or-le-sum_by (weight order j) arcs l.0 no_arc l.1)))
    (cases_taken order s)

off : (x : Bool) → (x && false) ≡ false
off true = refl
off false = refl

weight_other : (order : List ℕ) (j : ℕ) (a : SupplyArc) → (a.customer ≡ j → ⊥) → weight order j a ≡ 0
weight_other order j a other = ap (λ b. cond (not (is_taken order a.supplier) && b) 1 0) (ne_eqb a.customer j other) ∙ ap (λ b. cond b 1 0) (off (not (is_taken order a.supplier)))

pub none_missing : (arcs : List SupplyArc) (order : List ℕ) (j : ℕ) → ((s : ℕ) → Leads arcs s j → Contains order s) → missing arcs order j ≡ 0
none_missing [] order j all = refl
none_missing (a ∷ arcs) order j all =
    let rest = none_missing arcs order j (λ s l. all s (lead_later a arcs s j l)) in
    let e = sum_by-cons (weight order j) a arcs in
    let w : weight order j a ≡ 0 = ⊎_elim
    (λ same. weight_taken order j a (all a.supplier (0, omega arith, refl, same)))
    (λ other. weight_other order j a other)
    (cases_eq a.customer j) in
    omega (arith, rest, e, w)

pub missing_few : (arcs : List SupplyArc) (j k : ℕ) → length arcs ≤ k → missing arcs [] j ≤ k
missing_few arcs j k short = omega (arith, short, count_by-le-length (λ (a : SupplyArc). a.customer == j) arcs)

-- a customer that is not yet released waits for one at least
pub release_some : (cs waits0 waits ready0 ready : List ℕ) (k : ℕ) → k < length cs → All (λ c. c < length waits0) cs → Released (take k cs) waits0 waits ready0 ready
    → ((j : ℕ) → count_by (λ c. c == j) cs ≤ get_or waits0 j 0) → 1 ≤ get_or waits (get_or cs k 0) 0
release_some cs waits0 waits ready0 ready k inside there old enough =
    let c = get_or cs k 0 in
    let here_one : here (get_or cs k 0) (get_or cs k 0) ≡ 1 = ap (λ b. cond b 1 0) (eq-eqb (get_or cs k 0) (get_or cs k 0) refl) in
    omega (arith, old.fewer c, enough c, sum_by_more_le (here c) cs k 0 inside, here_one)

-- one customer more is released
pub release_more : (cs waits0 waits ready0 ready ready' : List ℕ) (k : ℕ) → k < length cs → All (λ c. c < length waits0) cs → Released (take k cs) waits0 waits ready0 ready
    → ((j : ℕ) → count_by (λ c. c == j) cs ≤ get_or waits0 j 0)
    → IsInsertedIf (get_or cs k 0) (get_or (set waits (get_or cs k 0) (get_or waits (get_or cs k 0) 0 - 1)) (get_or cs k 0) 0 == 0) ready ready'
    → Released (take (k + 1) cs) waits0 (set waits (get_or cs k 0) (get_or waits (get_or cs k 0) 0 - 1)) ready0 ready'
release_more cs waits0 waits ready0 ready ready' k inside there old enough put =
    let c = get_or cs k 0 in
    let waits' = set waits (get_or cs k 0) (get_or waits (get_or cs k 0) 0 - 1) in
    let more : take (k + 1) cs ≡ take k cs ++ get_or cs k 0 ∷ [] = take_more cs k 0 inside in
    let low : get_or cs k 0 < length waits = omega (arith, there k 0 inside, old.long) in
    let here_one : here (get_or cs k 0) (get_or cs k 0) ≡ 1 = ap (λ b. cond b 1 0) (eq-eqb (get_or cs k 0) (get_or cs k 0) refl) in
    let some : 1 ≤ get_or waits (get_or cs k 0) 0 = omega (arith, old.fewer c, enough c, sum_by_more_le (here c) cs k 0 inside, here_one) in
    let now : get_or (set waits (get_or cs k 0) (get_or waits (get_or cs k 0) 0 - 1)) (get_or cs k 0) 0 ≡ get_or waits (get_or cs k 0) 0 - 1 =
    get_or-set_same waits c (get_or waits c 0 - 1) 0 low in
    record {
      long = length-set waits c (get_or waits c 0 - 1) ∙ old.long;
      fewer = λ j. ⊎_elim
          (λ same.
          let e : get_or waits' j 0 ≡ get_or waits j 0 - 1 = ap (λ n. get_or waits' n 0) same ∙ now ∙ ap (λ n. get_or waits n 0 - 1) (sym same) in
          let one : here j (get_or cs k 0) ≡ 1 = ap (λ b. cond b 1 0) (eq-eqb c j (sym same)) in
          let some' : 1 ≤ get_or waits j 0 = subst (λ n. 1 ≤ get_or waits n 0) (sym same) some in
          omega (arith, e, one, some', old.fewer j, sum_by_more (here j) cs k 0 inside))
          (λ other.
          let e = get_or-set_other waits c j (get_or waits c 0 - 1) 0 other in
          let none : here j (get_or cs k 0) ≡ 0 = ap (λ b. cond b 1 0) (ne_eqb c j (λ s. other (sym s))) in
          omega (arith, e, none, old.fewer j, sum_by_more (here j) cs k 0 inside))
          (cases_eq j c);
      stay = λ j is. (put j).1 (inl (old.stay j is));
      come = λ j is zero_now. ⊎_elim
          (λ same. (put j).1 (inr (same, eq-eqb _ 0 (ap (λ n. get_or waits' n 0) (sym same) ∙ zero_now))))
          (λ other. ⊎_elim
          (λ earlier. (put j).1 (inl (old.come j earlier (sym (get_or-set_other waits c j (get_or waits c 0 - 1) 0 other) ∙ zero_now))))
          (λ it. absurd (other (sym it)))
          (Contains-push_cases (take k cs) c j (subst (λ xs. Contains xs j) more is)))
          (cases_eq j c);
      only = λ j is. ⊎_elim
          (λ was. ⊎_elim
          (λ first. inl first)
          (λ p. ⊎_elim
          (λ same. absurd (omega (arith, some, ap (λ n. get_or waits n 0) (sym same) ∙ p.1)))
          (λ other. inr (subst (λ xs. Contains xs j) (sym more) (Contains-append_left (take k cs) (c ∷ []) j p.0), get_or-set_other waits c j (get_or waits c 0 - 1) 0 other ∙ p.1))
          (cases_eq j c))
          (old.only j was))
          (λ p. inr (
            subst (λ xs. Contains xs j) (sym more) (subst (λ x. Contains (take k cs ++ c ∷ []) x) (sym p.0) (Contains-push (take k cs) c)),
            ap (λ n. get_or waits' n 0) p.0 ∙ eqb-true _ 0 p.1,
          ))
          ((put j).0 is);
    }

pub release_next : (cs waits0 waits ready0 ready ready' : List ℕ) (k left : ℕ) → k < length cs → All (λ c. c < length waits0) cs → Released (take k cs) waits0 waits ready0 ready
    → ((j : ℕ) → count_by (λ c. c == j) cs ≤ get_or waits0 j 0) → left ≡ get_or waits (get_or cs k 0) 0 - 1
    → IsInsertedIf (get_or cs k 0) (left == 0) ready ready'
    → Released (take (k + 1) cs) waits0 (set waits (get_or cs k 0) left) ready0 ready'
release_next cs waits0 waits ready0 ready ready' k left inside there old enough is put =
    let low : get_or cs k 0 < length waits = omega (arith, there k 0 inside, old.long) in
    let now = get_or-set_same waits (get_or cs k 0) (get_or waits (get_or cs k 0) 0 - 1) 0 low in
    subst (λ x. Released (take (k + 1) cs) waits0 (set waits (get_or cs k 0) x) ready0 ready') (sym is)
    (release_more cs waits0 waits ready0 ready ready' k inside there old enough
    (subst (λ x. IsInsertedIf (get_or cs k 0) (x == 0) ready ready') (is ∙ sym now) put))
