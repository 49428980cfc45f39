-- The excess demands in the demand order, up to the first that is too large.
use Rattle.std.proofs.Common.{ℕ, ◌≡◌, ◌+◌, ◌-◌, ◌<◌, ◌≤◌, true, false, nat_eq, nat_lt, Some, None, Result, Ok, Err, List, [], length, get_or, set, take, map, replicate, refl, sym, ap, ◌∙◌, subst, inl, inr, ⊎_elim, arith}
use Rattle.std.specs.Prelude.{All, Contains, IfOk, MatchOption}
use Rattle.std.specs.List.{list_any}
use Rattle.std.proofs.lemmas.Bool.{cases_lt, both_ways, lt-ltb, le-ltb}
use Rattle.std.proofs.lemmas.List.{length-replicate, take_all}
use Rattle.std.proofs.lemmas.List.Elements.{All-weaker, All-filter, All-from_get_or}
use Rattle.std.proofs.lemmas.List.Folds.{list_any_at, list_any_none}
use Rattle.std.proofs.lemmas.List.Sums.{length-filter, count_by-le-length}
use Rattle.service_model.specs.Search.{first_of}
use Rattle.service_model.specs.Walks.{NoCycle}
use Rattle.service_model.proofs.SearchFacts.{below_none}
use Rattle.service_model.proofs.OrderLaws.{stage_place}
use Rattle.stage_file.specs.declared.limits.TheConstants.{MAX_EXCESS, MAX_QUANTITY}
use Rattle.stage_file.specs.declared.rules.TheConstants.{TOO_LARGE}
use Rattle.stage_file.specs.declared.fault.FileFault.{FileFault}
use Rattle.stage_file.specs.declared.fault.FileKind.TheVariants.{Stages}
use Rattle.stage_file.specs.declared.fault.ReadFault.{ReadFault}
use Rattle.stage_file.specs.declared.arcs.ArcRow.{ArcRow}
use Rattle.stage_file.specs.declared.raw.RawNet.{RawNet}
use Rattle.stage_file.specs.Faults.{fault_of}
use Rattle.demand_tables.specs.Demand.{row_at, arcs_from, excess_at, IsExcess, IsOnlyExcess, ExcessWithin}
use Rattle.demand_tables.specs.DemandFaults.{supply_arc, turned, has_large, too_large_at, bound_rules, IsExcessFault, IsDemandFault, IsDemandOrder, DemandCase}
use Rattle.demand_tables.specs.DemandNet.{JoinsStages, IsDemandNet}
use Rattle.demand_tables.specs.Lookups.{AreAnswered}
use Rattle.demand_tables.proofs.ExcessLaws.{finished, one_excess}
use Rattle.demand_tables.proofs.RuleFacts.{holds, first_fails}
use Rattle.demand_tables.proofs.SolvedFacts.{Solved, customer_place, customers_before, solved_more, solved_all, earlier_stays, here_is}
use Rattle.demand_tables.proofs.WithinFacts.{LastsWithin, bounded_lasts}

-- the first k stages have their excess demands, and none is too large
pub record SoFar (raw : RawNet) (order : List ℕ) (k : ℕ) (lists : List (List ℕ)) : Type 0 where
  pub solved : Solved raw order k lists
  pub within : (p : ℕ) → p < k → ExcessWithin raw.horizon (excess_at lists (get_or order p 0))

pub begun : (raw : RawNet) (order : List ℕ) → SoFar raw order 0 (replicate (length raw.stages) [])
begun raw order = record {
  solved = record { long = length-replicate (length raw.stages) []; each = λ p low. absurd (omega arith) };
  within = λ p low. absurd (omega arith);
}

-- no entry is too large
small : (xs : List ℕ) → list_any (nat_lt MAX_EXCESS) xs ≡ false → All (λ x. x ≤ MAX_EXCESS) xs
small xs none k d inside = elim (cases_lt MAX_EXCESS (get_or xs k d)) [
  | inl above ↦ absurd (both_ways (list_any (nat_lt MAX_EXCESS) xs) none (list_any_at (nat_lt MAX_EXCESS) xs k d inside (lt-ltb MAX_EXCESS (get_or xs k d) above)))
  | inr below ↦ below
]

large_is : (horizon : ℕ) (xs : List ℕ) → length xs ≤ horizon + 1 → has_large horizon xs ≡ list_any (nat_lt MAX_EXCESS) xs
unfolding has_large
large_is horizon xs short = ap (list_any (nat_lt MAX_EXCESS)) (take_all (horizon + 1) xs short)

none_large : (xs : List ℕ) → All (λ x. x ≤ MAX_EXCESS) xs → list_any (nat_lt MAX_EXCESS) xs ≡ false
none_large xs each = list_any_none (nat_lt MAX_EXCESS) xs (λ k d inside. le-ltb MAX_EXCESS (get_or xs k d) (each k d inside))

module _ (raw : RawNet) (order : List ℕ) (net : IsDemandNet raw) (sorted : IsDemandOrder raw order) where
  -- the customers of the next stage have their excess demands
  customers_within : (k : ℕ) (lists : List (List ℕ)) → k < length order → SoFar raw order k lists → All (λ a. ExcessWithin raw.horizon (excess_at lists a.customer)) (arcs_from raw.arcs (get_or order k 0))
  customers_within k lists inside so =
      All-weaker (λ (a : ArcRow). Contains (take k order) a.customer) (λ (a : ArcRow). ExcessWithin raw.horizon (excess_at lists a.customer))
      (λ a there. let at = customer_place raw order sorted k a.customer there in subst (λ c. ExcessWithin raw.horizon (excess_at lists c)) at.2 (so.within at.0 at.1))
      (arcs_from raw.arcs (get_or order k 0)) (customers_before raw order sorted k inside)

  pub answered : (k : ℕ) (lists : List (List ℕ)) → k < length order → SoFar raw order k lists → AreAnswered lists (arcs_from raw.arcs (get_or order k 0))
  answered k lists inside so =
      let p = λ (a : ArcRow). nat_eq a.supplier (get_or order k 0) in
      record {
        few = omega (arith, net.few_arcs, length-filter p raw.arcs, count_by-le-length p raw.arcs);
        each = λ i d low.
            let arc = All-filter p (JoinsStages (length raw.stages)) raw.arcs net.ends i d low in
            record {
              customer = omega (arith, arc.customer, so.solved.long);
              quantity = All-filter p (λ (a : ArcRow). a.quantity ≤ MAX_QUANTITY) raw.arcs net.quantities i d low;
              small = (customers_within k lists inside so i d low).small;
            };
      }

  lasts : (k : ℕ) (lists : List (List ℕ)) (xs : List ℕ) → k < length order → SoFar raw order k lists → IsExcess raw lists (get_or order k 0) xs → LastsWithin raw.horizon xs
  lasts k lists xs inside so is =
      bounded_lasts raw lists (arcs_from raw.arcs (get_or order k 0)) (row_at raw (get_or order k 0)).bound xs net.entries (customers_within k lists inside so) is

  -- one stage more
  pub next : (k : ℕ) (lists : List (List ℕ)) (xs : List ℕ) → k < length order → SoFar raw order k lists → IsExcess raw lists (get_or order k 0) xs
      → list_any (nat_lt MAX_EXCESS) xs ≡ false → SoFar raw order (k + 1) (set lists (get_or order k 0) xs)
  next k lists xs inside so is none =
      let long = lasts k lists xs inside so is in
      let here : ExcessWithin raw.horizon xs = record { some = long.some; short = long.short; small = small xs none } in
      record {
        solved = solved_more raw order sorted k lists xs inside so.solved is;
        within = λ p low. ⊎_elim
            (λ less. subst (ExcessWithin raw.horizon) (sym (earlier_stays raw order sorted k p lists xs less inside)) (so.within p less))
            (λ past.
            let same : k ≡ p = omega (arith, low, past) in
            subst (λ q. ExcessWithin raw.horizon (excess_at (set lists (get_or order k 0) xs) (get_or order q 0))) same
            (subst (ExcessWithin raw.horizon) (sym (here_is raw order sorted k lists xs so.solved.long inside)) here))
            (cases_lt p k);
      }

  -- a stage whose excess demand is not too large
  passes : (full : List (List ℕ)) (p : ℕ) → ExcessWithin raw.horizon (excess_at full (get_or order p 0)) → too_large_at raw full (get_or order p 0) ≡ None
  passes full p is =
      let xs = excess_at full (get_or order p 0) in
      holds (row_at raw (get_or order p 0)).row TOO_LARGE (has_large raw.horizon xs) (large_is raw.horizon xs is.short ∙ none_large xs is.small)

  -- all stages
  pub done : (lists : List (List ℕ)) → first_of (bound_rules raw) ≡ None → SoFar raw order (length order) lists → DemandCase raw (Ok lists)
  done lists none so =
      let has = solved_all raw order sorted lists so.solved in
      let fault : IsExcessFault raw None = record {
        lists = lists;
        excess = has;
        order = order;
        sorted = sorted;
        first = sym (below_none (λ p. too_large_at raw lists (get_or order p 0)) (length order) (λ p low. passes lists p (so.within p low)));
      } in
      (subst (λ o. MatchOption o (IsExcessFault raw None) (λ f. None ≡ Some f)) (sym none) fault, has)

  pub all_within : (lists : List (List ℕ)) → SoFar raw order (length order) lists → All (ExcessWithin raw.horizon) lists
  all_within lists so =
      All-from_get_or (ExcessWithin raw.horizon) lists [] (λ j inside.
      let at = stage_place (length raw.stages) (map turned raw.arcs) order sorted j (omega (arith, inside, so.solved.long)) in
      subst (λ i. ExcessWithin raw.horizon (excess_at lists i)) at.2 (so.within at.0 at.1))

  -- the first excess demand that is too large
  pub stopped : (k : ℕ) (lists : List (List ℕ)) (xs : List ℕ) (fault : FileFault) → first_of (bound_rules raw) ≡ None → k < length order → SoFar raw order k lists → IsExcess raw lists (get_or order k 0) xs
      → list_any (nat_lt MAX_EXCESS) xs ≡ true → fault ≡ fault_of Stages (row_at raw (get_or order k 0)).row TOO_LARGE 6 → IsDemandFault raw (Some fault)
  stopped k lists xs fault none inside so is large at =
      let rest = finished raw order sorted none (length order - (k + 1)) (k + 1) (set lists (get_or order k 0) xs) (omega arith) (solved_more raw order sorted k lists xs inside so.solved is) in
      let here : excess_at rest.0 (get_or order k 0) ≡ xs = rest.2 k (omega arith) ∙ here_is raw order sorted k lists xs so.solved.long inside in
      let there : has_large raw.horizon (excess_at rest.0 (get_or order k 0)) ≡ true = ap (has_large raw.horizon) here ∙ large_is raw.horizon xs (lasts k lists xs inside so is).short ∙ large in
      let first = first_fails (λ p. too_large_at raw rest.0 (get_or order p 0)) (length order) k (row_at raw (get_or order k 0)).row TOO_LARGE (has_large raw.horizon (excess_at rest.0 (get_or order k 0)))
      (below_none (λ p. too_large_at raw rest.0 (get_or order p 0)) k (λ p low.
      passes rest.0 p (subst (ExcessWithin raw.horizon) (sym (rest.2 p (omega arith) ∙ earlier_stays raw order sorted k p lists xs low inside)) (so.within p low))))
      inside refl there in
      let found : IsExcessFault raw (Some fault) = record { lists = rest.0; excess = rest.1; order = order; sorted = sorted; first = ap Some at ∙ sym first } in
      subst (λ o. MatchOption o (IsExcessFault raw (Some fault)) (λ f. Some fault ≡ Some f)) (sym none) found

-- the excess demands that are given are the only ones
pub only_case : (raw : RawNet) (result : Result (List (List ℕ)) ReadFault) → All (JoinsStages (length raw.stages)) raw.arcs → NoCycle (length raw.stages) (map supply_arc raw.arcs)
    → DemandCase raw result → IfOk result (IsOnlyExcess raw)
only_case raw (Ok lists) ends acyclic is = λ others has. one_excess raw others lists ends acyclic has is.1
only_case raw (Err fault) ends acyclic is = tt
