-- Records without a cycle have excess demands in one way, where each bound names a table or has its customers.
use Rattle.std.proofs.Common.{ℕ, zero, suc, ◌≡◌, ◌+◌, ◌==◌, ◌<◌, Bool, true, false, None, List, [], length, get_or, set, map, replicate, refl, sym, ◌∙◌, inl, inr, arith}
use Rattle.std.specs.Prelude.{All, ◌&&◌}
use Rattle.std.proofs.lemmas.Bool.{cases_lt, and_from, both_ways, eq-eqb}
use Rattle.std.proofs.lemmas.List.{ext_get_or, length-replicate}
use Rattle.service_model.specs.Search.{first_of}
use Rattle.service_model.specs.Walks.{NoCycle}
use Rattle.service_model.proofs.SearchFacts.{first_of_none, none_below}
use Rattle.service_model.proofs.OrderLaws.{place_stage}
use Rattle.stage_file.specs.declared.raw.RawNet.{RawNet}
use Rattle.stage_file.specs.declared.rules.TheConstants.{NO_TABLE, NO_CUSTOMERS}
use Rattle.demand_tables.specs.Demand.{row_at, table_names, arcs_from, excess_at, IsExcess, HasExcess}
use Rattle.demand_tables.specs.DemandFaults.{supply_arc, turned, lacks_table, asks_customers, no_table_at, no_customers_at, bound_rules, IsDemandOrder}
use Rattle.demand_tables.specs.DemandNet.{JoinsStages}
use Rattle.demand_tables.proofs.ArcFacts.{supply_ends, each_customer}
use Rattle.demand_tables.proofs.BoundedFacts.{bounded_moved, one_bounded}
use Rattle.demand_tables.proofs.Downstream.{downstream}
use Rattle.demand_tables.proofs.MadeFacts.{some_bounded}
use Rattle.demand_tables.proofs.RuleFacts.{passed}
use Rattle.demand_tables.proofs.SolvedFacts.{Solved, solved_more, solved_all, earlier_stays}

-- two lists of excess demands are equal
pub one_excess : (raw : RawNet) (lists others : List (List ℕ)) → All (JoinsStages (length raw.stages)) raw.arcs → NoCycle (length raw.stages) (map supply_arc raw.arcs)
    → HasExcess raw lists → HasExcess raw others → lists ≡ others
one_excess raw lists others within acyclic first second =
    ext_get_or [] lists others (first.long ∙ sym second.long) (λ i inside.
    downstream (length raw.stages) (map supply_arc raw.arcs) (λ j. excess_at lists j ≡ excess_at others j) (supply_ends (length raw.stages) raw.arcs within) acyclic
    (λ j low customers.
    one_bounded raw others (arcs_from raw.arcs j) (row_at raw j).bound (excess_at lists j) (excess_at others j)
    (bounded_moved lists others (arcs_from raw.arcs j) (each_customer raw.arcs j (λ c. excess_at lists c ≡ excess_at others c) customers) raw (row_at raw j).bound (excess_at lists j) (first.each j low))
    (second.each j low))
    i (omega (arith, inside, first.long)))

-- where the rules on bounds hold
pub record RulesHold (raw : RawNet) (j : ℕ) : Type 0 where
  pub table : lacks_table (table_names raw.tables) (row_at raw j).bound ≡ false
  pub customers : asks_customers (row_at raw j).bound ≡ true → 0 < length (arcs_from raw.arcs j)

some_arcs : (asks : Bool) (n : ℕ) → (asks && (n == 0)) ≡ false → asks ≡ true → 0 < n
some_arcs asks n fails is = elim (cases_lt 0 n) [
  | inl more ↦ more
  | inr none ↦ absurd (both_ways (asks && (n == 0)) fails (and_from asks (n == 0) is (eq-eqb n 0 (omega arith))))
]

pub rules_hold : (raw : RawNet) (j : ℕ) → first_of (bound_rules raw) ≡ None → j < length raw.stages → RulesHold raw j
rules_hold raw j none low =
    let each = first_of_none (bound_rules raw) none in
    let s = row_at raw j in
    let test = asks_customers (row_at raw j).bound && (length (arcs_from raw.arcs j) == 0) in
    record {
      table = passed s.row NO_TABLE (lacks_table (table_names raw.tables) s.bound) (none_below (no_table_at raw) (length raw.stages) each.0 j low);
      customers = some_arcs (asks_customers s.bound) (length (arcs_from raw.arcs j)) (passed s.row NO_CUSTOMERS test (none_below (no_customers_at raw) (length raw.stages) each.1.0 j low));
    }

-- the excess demand of a stage, given those of its customers
pub some_at : (raw : RawNet) (lists : List (List ℕ)) (j : ℕ) → RulesHold raw j → (xs : List ℕ) × IsExcess raw lists j xs
some_at raw lists j rules = some_bounded raw lists (arcs_from raw.arcs j) (row_at raw j).bound rules.table rules.customers

module _ (raw : RawNet) (order : List ℕ) (sorted : IsDemandOrder raw order) (none : first_of (bound_rules raw) ≡ None) where
  -- the excess demands of all stages, begun with those of the first
  pub finished : (left k : ℕ) (lists : List (List ℕ)) → left + k ≡ length order → Solved raw order k lists
      → (full : List (List ℕ)) × HasExcess raw full × ((p : ℕ) → p < k → excess_at full (get_or order p 0) ≡ excess_at lists (get_or order p 0))
  finished zero k lists all solved =
      let same : k ≡ length order = omega arith in
      (lists, solved_all raw order sorted lists (rw same at solved), λ p low. refl)
  finished (suc left) k lists all solved =
      let inside : k < length order = omega arith in
      let xs = some_at raw lists (get_or order k 0) (rules_hold raw (get_or order k 0) none (place_stage (length raw.stages) (map turned raw.arcs) order sorted k inside)) in
      let rest = finished left (k + 1) (set lists (get_or order k 0) xs.0) (omega arith) (solved_more raw order sorted k lists xs.0 inside solved xs.1) in
      (rest.0, rest.1, λ p low. rest.2 p (omega arith) ∙ earlier_stays raw order sorted k p lists xs.0 low inside)

  -- there are excess demands
  pub some_excess : (lists : List (List ℕ)) × HasExcess raw lists
  some_excess =
      let full = finished (length order) 0 (replicate (length raw.stages) []) (omega arith) (record { long = length-replicate (length raw.stages) []; each = λ p low. absurd (omega arith) }) in
      (full.0, full.1)
