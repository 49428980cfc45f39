-- The network of records without a cycle is a network on which all rules hold.
use Rattle.std.proofs.Common.{◌≡◌, ℕ, zero, suc, ◌*◌, ◌<◌, ◌≤◌, List, [], ◌∷◌, length, get_or, map, arith}
use Rattle.std.specs.List.{All}
use Rattle.std.proofs.lemmas.List.{length-map, get_or-map}
use Rattle.std.proofs.lemmas.Bool.Decides.{nat_tests}
use Rattle.std.proofs.Math.Nat.{mul-le-mul_left, mul-le-mul_right}
use Rattle.service_model.specs.declared.limits.TheConstants.{MAX_HORIZON}
use Rattle.service_model.specs.declared.stage.SupplyArc.{SupplyArc}
use Rattle.service_model.specs.Net.{stage_at, no_stage, arc_in, no_arc}
use Rattle.service_model.specs.Search.{sum_below}
use Rattle.service_model.specs.Walks.{NoCycle}
use Rattle.service_model.specs.Faults.{IsSameEnds, top_of, tops_below}
use Rattle.service_model.specs.Networks.{StageWithin, ArcWithin, IsNetwork}
use Rattle.stage_file.specs.declared.arcs.ArcRow.{ArcRow}
use Rattle.stage_file.specs.declared.limits.TheConstants.{MAX_EXCESS, MAX_UNIT}
use Rattle.stage_file.specs.declared.raw.RawNet.{RawNet}
use Rattle.stage_file.specs.declared.stages.StageRow.{StageRow}
use Rattle.stage_file.specs.Arcs.{ArcRowWithin, AreArcRows}
use Rattle.stage_file.specs.Raw.{IsRawNet}
use Rattle.stage_file.specs.StageRecords.{StageRowWithin}
use Rattle.demand_tables.specs.Demand.{row_at, no_row, excess_at, ExcessWithin}
use Rattle.demand_tables.specs.DemandFaults.{supply_arc}
use Rattle.network_check.specs.Checked.{stage_with, supply_arcs, network_from}
use Rattle.network_check.proofs.StageFacts.{length-stages_from, get_or-stages_from}

-- the greatest unit cost times the greatest excess demand
abbrev MOST_COST : ℕ
MOST_COST = 1000000000000000

product_small : (unit x : ℕ) → unit ≤ MAX_UNIT → x ≤ MAX_EXCESS → unit * x ≤ MOST_COST
product_small unit x u e =
    let first : unit * x ≤ unit * MAX_EXCESS = mul-le-mul_left unit e in
    let second : unit * MAX_EXCESS ≤ MAX_UNIT * MAX_EXCESS = mul-le-mul_right MAX_EXCESS u in
    omega (arith, first, second)

costs_small : (unit : ℕ) (xs : List ℕ) → unit ≤ MAX_UNIT → All (λ x. x ≤ MAX_EXCESS) xs → All (λ c. c ≤ MOST_COST) (map (λ x. unit * x) xs)
costs_small unit xs u small = λ k d l.
    let within : k < length xs = omega (arith, l, length-map xs (λ (x : ℕ). unit * x)) in
    rw (get_or-map (λ x. unit * x) xs k 0 d within) (product_small unit (get_or xs k 0) u (small k 0 within))

-- a greatest entry is no greater than all entries may be
top_small : (bound : ℕ) (xs : List ℕ) → All (λ x. x ≤ bound) xs → top_of xs ≤ bound
top_small bound [] all = omega arith
top_small bound (x ∷ xs) all =
    let here : x ≤ bound = all 0 x (omega arith) in
    let rest : top_of xs ≤ bound = top_small bound xs (λ k d l. all (suc k) d (omega arith)) in
    grind (arith, nat_tests)

sum_small : (f : ℕ → ℕ) (bound n : ℕ) → ((k : ℕ) → k < n → f k ≤ bound) → sum_below f n ≤ n * bound
sum_small f bound zero each = omega arith
sum_small f bound (suc n) each =
    let before : sum_below f n ≤ n * bound = sum_small f bound n (λ k l. each k (omega arith)) in
    let here : f n ≤ bound = each n (omega arith) in
    grind arith

stage_within : (h : ℕ) (s : StageRow) (xs : List ℕ) → StageRowWithin h s → ExcessWithin h xs → StageWithin h (stage_with s xs)
stage_within h s xs row is =
    let size : length (map (λ x. s.unit * x) xs) ≡ length xs = length-map xs (λ (x : ℕ). s.unit * x) in
    let some = is.some in
    let few = is.short in
    let costs = costs_small s.unit xs row.unit is.small in
    record {
      lead = row.lead;
      supply = row.supply;
      most = row.most;
      least = row.least;
      some_cost = omega (arith, size, some);
      cost_length = omega (arith, size, few);
      entries = λ k d l. (let le = costs k d l in omega (arith, le));
    }

top_within : (h : ℕ) (s : StageRow) (xs : List ℕ) → StageRowWithin h s → ExcessWithin h xs → top_of (stage_with s xs).cost ≤ MOST_COST
top_within h s xs row is = top_small MOST_COST (map (λ x. s.unit * x) xs) (costs_small s.unit xs row.unit is.small)

abbrev no_arc_row : ArcRow
no_arc_row = record { supplier = 0; customer = 0; quantity = 0; transit = 0; row = 0 }

abbrev arc_row_in : List ArcRow → ℕ → ArcRow
arc_row_in rows a = get_or rows a no_arc_row

arc_is : (rows : List ArcRow) (a : ℕ) → a < length rows → arc_in (map supply_arc rows) a ≡ supply_arc (arc_row_in rows a)
arc_is rows a within = get_or-map supply_arc rows a no_arc_row no_arc within

arc_within : (stages : ℕ) (row : ArcRow) → ArcRowWithin stages row → ArcWithin stages (supply_arc row)
arc_within stages row within =
    let none = within.transit in
    record { supplier = within.supplier; customer = within.customer; apart = within.apart; transit = omega (arith, none) }

net_arc : (stages : ℕ) (rows : List ArcRow) (a : ℕ) → AreArcRows stages rows → a < length rows → ArcWithin stages (arc_in (map supply_arc rows) a)
net_arc stages rows a are within = rw (arc_is rows a within) (arc_within stages (arc_row_in rows a) (are.within a no_arc_row within))

net_once : (stages : ℕ) (rows : List ArcRow) (a b : ℕ) → AreArcRows stages rows → a < b → b < length rows → IsSameEnds (arc_in (map supply_arc rows) a) (arc_in (map supply_arc rows) b) → ⊥
net_once stages rows a b are less within same =
    let first = arc_is rows a (omega arith) in
    let second = arc_is rows b within in
    are.distinct a b no_arc_row less within (rw (first, second) at same)

-- both ends of each arc are stages
pub ends_within : (raw : RawNet) (arcs : List SupplyArc) (stages : ℕ) → IsRawNet raw → arcs ≡ supply_arcs raw → stages ≡ length raw.stages → All (λ a. (a.supplier < stages) × (a.customer < stages)) arcs
ends_within raw arcs stages read same count = rw (same, count) (λ k d l.
    let within : k < length raw.arcs = omega (arith, l, length-map raw.arcs supply_arc) in
    let row = read.arcs.within k no_arc_row within in
    rw (get_or-map supply_arc raw.arcs k no_arc_row d within) (row.supplier, row.customer))

-- records without a cycle, and excess demands of their stages, are within their limits
pub record IsWithin (raw : RawNet) (lists : List (List ℕ)) : Type 0 where
  pub horizon : raw.horizon ≤ MAX_HORIZON
  pub read : IsRawNet raw
  pub acyclic : NoCycle (length raw.stages) (supply_arcs raw)
  pub long : length lists ≡ length raw.stages
  pub within : All (ExcessWithin raw.horizon) lists

net_stage : (raw : RawNet) (lists : List (List ℕ)) (j : ℕ) → IsWithin raw lists → j < length raw.stages → StageWithin raw.horizon (stage_at (network_from raw lists) j)
net_stage raw lists j is low =
    let long = is.long in
    rw (get_or-stages_from raw.stages lists j no_stage is.long low)
    (stage_within raw.horizon (row_at raw j) (excess_at lists j) (is.read.stages.within j no_row low) (is.within j [] (omega (arith, long, low))))

net_top : (raw : RawNet) (lists : List (List ℕ)) (j : ℕ) → IsWithin raw lists → j < length raw.stages → top_of (stage_at (network_from raw lists) j).cost ≤ MOST_COST
net_top raw lists j is low =
    let long = is.long in
    rw (get_or-stages_from raw.stages lists j no_stage is.long low)
    (top_within raw.horizon (row_at raw j) (excess_at lists j) (is.read.stages.within j no_row low) (is.within j [] (omega (arith, long, low))))

-- all rules on networks hold
pub is_network : (raw : RawNet) (lists : List (List ℕ)) → IsWithin raw lists → IsNetwork (network_from raw lists)
is_network raw lists is =
    let n = network_from raw lists in
    let stages : length n.stages ≡ length raw.stages = length-stages_from raw.stages lists is.long in
    let arcs : length n.arcs ≡ length raw.arcs = length-map raw.arcs supply_arc in
    let some = is.read.stages.some in
    let few = is.read.stages.few in
    let few_arcs = is.read.arcs.few in
    let tops : tops_below n (length n.stages) ≤ length n.stages * MOST_COST = sum_small (λ j. top_of (stage_at n j).cost) MOST_COST (length n.stages) (λ j l. net_top raw lists j is (omega (arith, l, stages))) in
    record {
      horizon = is.horizon;
      some_stage = omega (arith, stages, some);
      few_stages = omega (arith, stages, few);
      stages = λ j l. net_stage raw lists j is (omega (arith, l, stages));
      payable = omega (arith, tops, stages, few);
      few_arcs = omega (arith, arcs, few_arcs);
      arcs = λ a l. rw stages (net_arc (length raw.stages) raw.arcs a is.read.arcs (omega (arith, l, arcs)));
      once = λ a b less l. net_once (length raw.stages) raw.arcs a b is.read.arcs less (omega (arith, l, arcs));
      acyclic = rw stages is.acyclic;
    }
