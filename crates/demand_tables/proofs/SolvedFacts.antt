-- The excess demands of the first stages in the demand order.
use Rattle.std.proofs.Common.{ℕ, ◌≡◌, ◌+◌, ◌<◌, ◌≤◌, List, [], length, get_or, set, take, map, sym, ◌∙◌, subst, ⊎_elim, arith}
use Rattle.std.specs.Prelude.{All, Contains}
use Rattle.std.proofs.lemmas.Bool.{cases_lt}
use Rattle.std.proofs.lemmas.List.{length-set, length-take, get_or-take, get_or-set_same, get_or-set_other, get_or_default}
use Rattle.std.proofs.lemmas.List.Elements.{All-weaker}
use Rattle.service_model.proofs.OrderLaws.{stage_once, place_stage, stage_place}
use Rattle.stage_file.specs.declared.arcs.ArcRow.{ArcRow}
use Rattle.stage_file.specs.declared.raw.RawNet.{RawNet}
use Rattle.demand_tables.specs.Demand.{row_at, arcs_from, excess_at, IsExcess, HasExcess}
use Rattle.demand_tables.specs.DemandFaults.{turned, IsDemandOrder}
use Rattle.demand_tables.proofs.ArcFacts.{each_before}
use Rattle.demand_tables.proofs.BoundedFacts.{bounded_moved}

-- the first k stages have their excess demands
pub record Solved (raw : RawNet) (order : List ℕ) (k : ℕ) (lists : List (List ℕ)) : Type 0 where
  pub long : length lists ≡ length raw.stages
  pub each : (p : ℕ) → p < k → IsExcess raw lists (get_or order p 0) (excess_at lists (get_or order p 0))

module _ (raw : RawNet) (order : List ℕ) (sorted : IsDemandOrder raw order) where
  -- a customer of the stage at a place stands before it
  pub customer_place : (p c : ℕ) → Contains (take p order) c → (q : ℕ) × (q < p) × (get_or order q 0 ≡ c)
  customer_place p c (q, inside, is) =
      let low : q < p = omega (arith, inside, length-take p order) in
      let there : q < length order = omega (arith, inside, length-take p order) in
      (q, low, get_or_default order q 0 c there ∙ sym (get_or-take p order q c low) ∙ is)

  pub customers_before : (p : ℕ) → p < length order → All (λ a. Contains (take p order) a.customer) (arcs_from raw.arcs (get_or order p 0))
  customers_before p inside = each_before raw.arcs (get_or order p 0) (λ c. Contains (take p order) c) (sorted.next p inside).ready.suppliers

  places_apart : (p q : ℕ) → p < q → q < length order → get_or order p 0 ≡ get_or order q 0 → ⊥
  places_apart p q less inside same =
      let one = stage_once (length raw.stages) (map turned raw.arcs) order sorted p q (omega arith) inside same in
      omega (arith, one, less)

  -- a further excess demand leaves those of the customers that stand before as they are
  customers_stay : (k p : ℕ) (lists : List (List ℕ)) (xs : List ℕ) → p ≤ k → k < length order
      → All (λ a. excess_at lists a.customer ≡ excess_at (set lists (get_or order k 0) xs) a.customer) (arcs_from raw.arcs (get_or order p 0))
  customers_stay k p lists xs low inside =
      All-weaker (λ (a : ArcRow). Contains (take p order) a.customer) (λ (a : ArcRow). excess_at lists a.customer ≡ excess_at (set lists (get_or order k 0) xs) a.customer)
      (λ a there.
      let at = customer_place p a.customer there in
      sym (get_or-set_other lists (get_or order k 0) a.customer xs [] (λ same. places_apart at.0 k (omega (arith, at.1, low)) inside (at.2 ∙ same))))
      (arcs_from raw.arcs (get_or order p 0)) (customers_before p (omega arith))

  stays : (k p : ℕ) (lists : List (List ℕ)) (xs ys : List ℕ) → p ≤ k → k < length order → IsExcess raw lists (get_or order p 0) ys → IsExcess raw (set lists (get_or order k 0) xs) (get_or order p 0) ys
  stays k p lists xs ys low inside is =
      bounded_moved lists (set lists (get_or order k 0) xs) (arcs_from raw.arcs (get_or order p 0)) (customers_stay k p lists xs low inside) raw (row_at raw (get_or order p 0)).bound ys is

  pub earlier_stays : (k p : ℕ) (lists : List (List ℕ)) (xs : List ℕ) → p < k → k < length order → excess_at (set lists (get_or order k 0) xs) (get_or order p 0) ≡ excess_at lists (get_or order p 0)
  earlier_stays k p lists xs low inside = get_or-set_other lists (get_or order k 0) (get_or order p 0) xs [] (places_apart p k low inside)

  pub here_is : (k : ℕ) (lists : List (List ℕ)) (xs : List ℕ) → length lists ≡ length raw.stages → k < length order → excess_at (set lists (get_or order k 0) xs) (get_or order k 0) ≡ xs
  here_is k lists xs long inside =
      get_or-set_same lists (get_or order k 0) xs [] (omega (arith, long, place_stage (length raw.stages) (map turned raw.arcs) order sorted k inside))

  -- one stage more
  pub solved_more : (k : ℕ) (lists : List (List ℕ)) (xs : List ℕ) → k < length order → Solved raw order k lists → IsExcess raw lists (get_or order k 0) xs → Solved raw order (k + 1) (set lists (get_or order k 0) xs)
  solved_more k lists xs inside solved is = record {
    long = length-set lists (get_or order k 0) xs ∙ solved.long;
    each = λ p low. ⊎_elim
        (λ less. subst (λ ys. IsExcess raw (set lists (get_or order k 0) xs) (get_or order p 0) ys) (sym (earlier_stays k p lists xs less inside))
        (stays k p lists xs (excess_at lists (get_or order p 0)) (omega arith) inside (solved.each p less)))
        (λ past.
        let same : k ≡ p = omega (arith, low, past) in
        subst (λ q. IsExcess raw (set lists (get_or order k 0) xs) (get_or order q 0) (excess_at (set lists (get_or order k 0) xs) (get_or order q 0))) same
        (subst (λ ys. IsExcess raw (set lists (get_or order k 0) xs) (get_or order k 0) ys) (sym (here_is k lists xs solved.long inside)) (stays k k lists xs xs (omega arith) inside is)))
        (cases_lt p k);
  }

  -- all stages
  pub solved_all : (lists : List (List ℕ)) → Solved raw order (length order) lists → HasExcess raw lists
  solved_all lists solved = record {
    long = solved.long;
    each = λ j low.
        let at = stage_place (length raw.stages) (map turned raw.arcs) order sorted j low in
        subst (λ i. IsExcess raw lists i (excess_at lists i)) at.2 (solved.each at.0 at.1);
  }
