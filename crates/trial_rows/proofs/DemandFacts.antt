-- Excess demands under bounds of `normal:` with small factors are small, so that no rule on them fails.
use Rattle.std.proofs.Common.{◌≡◌, ℕ, ◌+◌, ◌*◌, ◌<◌, ◌≤◌, ◌==◌, ◌&&◌, nat_lt, false, List, length, take, get_or, map, All, Option, Some, None, sym, ap, subst, arith}
use Rattle.std.specs.Prelude.{MatchOption}
use Rattle.std.proofs.Math.Nat.{mul-le-mul_right}
use Rattle.std.proofs.lemmas.Bool.{le-ltb}
use Rattle.std.proofs.lemmas.List.{take_all}
use Rattle.std.proofs.lemmas.List.Elements.{All-from_get_or}
use Rattle.std.proofs.lemmas.List.Folds.{list_any_none}
use Rattle.service_model.specs.Search.{first_of}
use Rattle.service_model.proofs.SearchFacts.{below_none}
use Rattle.service_model.proofs.OrderLaws.{place_stage}
use Rattle.gsm_nums.proofs.RootFacts.{square_le}
use Rattle.stage_file.specs.declared.limits.TheConstants.{MAX_EXCESS}
use Rattle.stage_file.specs.declared.rules.TheConstants.{NO_TABLE, NO_CUSTOMERS, TOO_LARGE}
use Rattle.stage_file.specs.declared.fault.FileFault.{FileFault}
use Rattle.stage_file.specs.declared.fault.FileKind.TheVariants.{Stages}
use Rattle.stage_file.specs.declared.stages.Bound.{Bound}
use Rattle.stage_file.specs.declared.stages.Bound.TheVariants.{Normal}
use Rattle.stage_file.specs.declared.raw.RawNet.{RawNet}
use Rattle.demand_tables.specs.Demand.{row_at, table_names, arcs_from, excess_at, IsNormal, IsBounded, HasExcess}
use Rattle.demand_tables.specs.DemandFaults.{turned, lacks_table, asks_customers, has_large, no_table_at, no_customers_at, too_large_at, bound_rules, IsExcessFault, IsDemandFault, IsDemandOrder}
use Rattle.demand_tables.proofs.ExcessLaws.{some_excess}
use Rattle.trial_rows.proofs.RuleFacts.{first_none, holds}

-- each stage's bound is `normal:` with a factor up to 100
abbrev pub AreNormal : RawNet → Type 0
AreNormal raw = (j : ℕ) → j < length raw.stages → (factor : ℕ) × (factor ≤ 100) × ((row_at raw j).bound ≡ Normal factor)

square_small : (factor t : ℕ) → factor ≤ 100 → t ≤ 400 → factor * factor * t ≤ 2000 * 2000
square_small factor t low short =
    let square : factor * factor ≤ 100 * 100 = square_le factor 100 low in
    let times : factor * factor * t ≤ 100 * 100 * t = mul-le-mul_right t square in
    omega (arith, times, short)

-- a root of a small square is small
all_small : (horizon factor : ℕ) (xs : List ℕ) → horizon ≤ 400 → factor ≤ 100 → IsNormal horizon factor xs → All (λ x. x ≤ 2000) xs
all_small horizon factor xs short low is =
    All-from_get_or (λ x. x ≤ 2000) xs 0 (λ t inside.
    (is.each t inside).least 2000 (square_small factor t low (omega (arith, inside, is.long, short))))

none_large : (horizon : ℕ) (xs : List ℕ) → length xs ≡ horizon + 1 → All (λ x. x ≤ 2000) xs → has_large horizon xs ≡ false
unfolding has_large
none_large horizon xs long small =
    let all : take (horizon + 1) xs ≡ xs = take_all (horizon + 1) xs (omega (arith, long)) in
    rw all (list_any_none (nat_lt MAX_EXCESS) xs (λ k d inside. le-ltb MAX_EXCESS (get_or xs k d) (omega (arith, small k d inside))))

module _ (raw : RawNet) (short : raw.horizon ≤ 400) (normal : AreNormal raw) where
  has_table : (j : ℕ) → j < length raw.stages → no_table_at raw j ≡ None
  unfolding lacks_table
  has_table j inside =
      let bound = (normal j inside).2 in
      holds Stages (row_at raw j).row NO_TABLE 6 (lacks_table (table_names raw.tables) (row_at raw j).bound) (ap (lacks_table (table_names raw.tables)) bound)

  asks_none : (j : ℕ) → j < length raw.stages → no_customers_at raw j ≡ None
  unfolding asks_customers
  asks_none j inside =
      let bound = (normal j inside).2 in
      let test : (asks_customers (row_at raw j).bound && (length (arcs_from raw.arcs j) == 0)) ≡ false = ap (λ (b : Bound). asks_customers b && (length (arcs_from raw.arcs j) == 0)) bound in
      holds Stages (row_at raw j).row NO_CUSTOMERS 6 (asks_customers (row_at raw j).bound && (length (arcs_from raw.arcs j) == 0)) test

  pub bounds_hold : first_of (bound_rules raw) ≡ None
  bounds_hold = first_none (bound_rules raw) (below_none (no_table_at raw) (length raw.stages) has_table, (below_none (no_customers_at raw) (length raw.stages) asks_none, tt))

  -- each excess demand has an entry for each time up to the horizon, and small ones
  pub excess_small : (lists : List (List ℕ)) → HasExcess raw lists → (j : ℕ) → j < length raw.stages → (length (excess_at lists j) ≡ raw.horizon + 1) × All (λ x. x ≤ 2000) (excess_at lists j)
  excess_small lists has j inside =
      let factor = normal j inside in
      let is : IsNormal raw.horizon factor.0 (excess_at lists j) = subst (λ (b : Bound). IsBounded raw lists (arcs_from raw.arcs j) b (excess_at lists j)) factor.2 (has.each j inside) in
      (is.long, all_small raw.horizon factor.0 (excess_at lists j) short factor.1 is)

  not_large : (lists : List (List ℕ)) → HasExcess raw lists → (j : ℕ) → j < length raw.stages → too_large_at raw lists j ≡ None
  not_large lists has j inside =
      let is = excess_small lists has j inside in
      holds Stages (row_at raw j).row TOO_LARGE 6 (has_large raw.horizon (excess_at lists j)) (none_large raw.horizon (excess_at lists j) is.0 is.1)

  -- no rule on bounds and excess demands fails
  pub demand_holds : (order : List ℕ) → IsDemandOrder raw order → IsDemandFault raw None
  demand_holds order sorted =
      let has = some_excess raw order sorted bounds_hold in
      let fault : IsExcessFault raw None = record {
        lists = has.0;
        excess = has.1;
        order = order;
        sorted = sorted;
        first = sym (below_none (λ k. too_large_at raw has.0 (get_or order k 0)) (length order) (λ k inside.
            not_large has.0 has.1 (get_or order k 0) (place_stage (length raw.stages) (map turned raw.arcs) order sorted k inside)));
      } in
      subst (λ (o : Option FileFault). MatchOption o (IsExcessFault raw None) (λ f. None ≡ Some f)) (sym bounds_hold) fault
