-- The rules on bounds and excess demands, in their order, and the first that fails.
use Rattle.std.specs.Prelude.{◌≡◌, ℕ, ◌+◌, ◌==◌, ◌&&◌, Bool, true, false, nat_lt, List, [], ◌∷◌, length, take, map, slice_index, Option, Some, None, is_none, MatchOption, Result, Ok, Err, ⊤}
use Rattle.std.specs.List.{list_any}
use Rattle.service_model.specs.declared.stage.SupplyArc.{SupplyArc}
use Rattle.service_model.specs.Search.{first_of, first_below}
use Rattle.service_model.specs.Orders.{IsTopological}
use Rattle.stage_file.specs.declared.limits.TheConstants.{MAX_EXCESS}
use Rattle.stage_file.specs.declared.rules.TheConstants.{NO_TABLE, NO_CUSTOMERS, TOO_LARGE}
use Rattle.stage_file.specs.declared.fault.FileFault.{FileFault}
use Rattle.stage_file.specs.declared.fault.FileKind.TheVariants.{Stages}
use Rattle.stage_file.specs.declared.fault.ReadFault.{ReadFault}
use Rattle.stage_file.specs.declared.fault.ReadFault.TheVariants.{Fault, NoMemory}
use Rattle.stage_file.specs.declared.stages.Bound.{Bound}
use Rattle.stage_file.specs.declared.stages.Bound.TheVariants.{Named, Normal, Sum, Pool}
use Rattle.stage_file.specs.declared.arcs.ArcRow.{ArcRow}
use Rattle.stage_file.specs.declared.raw.RawNet.{RawNet}
use Rattle.stage_file.specs.Arcs.{place_of}
use Rattle.stage_file.specs.Faults.{fails_if}
use Rattle.demand_tables.specs.Demand.{row_at, table_names, arcs_from, excess_at, HasExcess}

-- an arc without its quantity
abbrev pub supply_arc : ArcRow → SupplyArc
supply_arc a = record { supplier = a.supplier; customer = a.customer; transit = a.transit }

-- an arc turned round: the supplier waits for the customer
abbrev pub turned : ArcRow → SupplyArc
turned a = record { supplier = a.customer; customer = a.supplier; transit = a.transit }

-- the demand order takes again and again the lowest stage whose customers were all taken
abbrev pub IsDemandOrder : RawNet → List ℕ → Type 0
IsDemandOrder raw order = IsTopological (length raw.stages) (map turned raw.arcs) order

-- a bound is the name of no table
unfoldable pub lacks_table : List (List ℕ) → Bound → Bool
lacks_table tables (Named name) = is_none (place_of tables name)
lacks_table tables (Normal factor) = false
lacks_table tables Sum = false
lacks_table tables Pool = false

-- a bound is made of the customers' excess demands
unfoldable pub asks_customers : Bound → Bool
asks_customers (Named name) = false
asks_customers (Normal factor) = false
asks_customers Sum = true
asks_customers Pool = true

-- an entry up to the horizon is too large
unfoldable pub has_large : ℕ → List ℕ → Bool
has_large horizon xs = list_any (nat_lt MAX_EXCESS) (take (horizon + 1) xs)

-- a rule at the bound of stage j, where it fails
abbrev pub bound_fails : RawNet → ℕ → ℕ → Bool → Option FileFault
bound_fails raw rule j fails = fails_if Stages (row_at raw j).row rule 6 fails

-- the bound of stage j names no table
abbrev pub no_table_at : RawNet → ℕ → Option FileFault
no_table_at raw j = bound_fails raw NO_TABLE j (lacks_table (table_names raw.tables) (row_at raw j).bound)

-- the bound of stage j is made of its customers' excess demands, and no arc leaves the stage
abbrev pub no_customers_at : RawNet → ℕ → Option FileFault
no_customers_at raw j =
    bound_fails raw NO_CUSTOMERS j (asks_customers (row_at raw j).bound && (length (arcs_from raw.arcs j) == 0))

-- the excess demand of stage j has an entry that is too large
abbrev pub too_large_at : RawNet → List (List ℕ) → ℕ → Option FileFault
too_large_at raw lists j = bound_fails raw TOO_LARGE j (has_large raw.horizon (excess_at lists j))

-- the rules on bounds, each at the first stage where it fails
abbrev pub bound_rules : RawNet → List (Option FileFault)
bound_rules raw =
    first_below (no_table_at raw) (length raw.stages)
    ∷ first_below (no_customers_at raw) (length raw.stages)
    ∷ []

-- too large an excess demand, at the first stage in the demand order that has one
abbrev pub excess_fault : RawNet → List (List ℕ) → List ℕ → Option FileFault
excess_fault raw lists order = first_below (λ k. too_large_at raw lists (slice_index order k)) (length order)

-- the fault of the excess demands, none where none is too large
pub record IsExcessFault (raw : RawNet) (fault : Option FileFault) : Type 0 where
  pub lists : List (List ℕ)
  pub excess : HasExcess raw lists
  pub order : List ℕ
  pub sorted : IsDemandOrder raw order
  pub first : fault ≡ excess_fault raw lists order

-- the first rule that fails, none where all hold
abbrev pub IsDemandFault : RawNet → Option FileFault → Type 0
IsDemandFault raw fault = MatchOption (first_of (bound_rules raw)) (IsExcessFault raw fault) (λ f. fault ≡ Some f)

-- what a call that gives the excess demands gives
abbrev pub DemandCase : RawNet → Result (List (List ℕ)) ReadFault → Type 0
DemandCase raw (Ok lists) = IsDemandFault raw None × HasExcess raw lists
DemandCase raw (Err (Fault fault)) = IsDemandFault raw (Some fault)
DemandCase raw (Err NoMemory) = ⊤
