-- The first rule that fails on files is one, and so is their network.
use Rattle.std.proofs.Common.{◌≡◌, ℕ, List, [], ◌∷◌, length, Option, Some, None, Ok, refl, sym, subst, ap, ◌∙◌, arith, inl, inr}
use Rattle.std.specs.Option.{MatchOption}
use Rattle.std.proofs.lemmas.List.{length-map}
use Rattle.std.proofs.lemmas.Bool.{cases_lt}
use Rattle.service_model.specs.declared.stage.SupplyArc.{SupplyArc}
use Rattle.service_model.specs.Search.{first_of}
use Rattle.service_model.specs.Walks.{NoCycle, IsFirstOnCycle, IsLowestOnCycle}
use Rattle.service_model.proofs.SearchFacts.{first_of_none}
use Rattle.service_model.proofs.OrderLaws.{one_order}
use Rattle.stage_file.specs.declared.raw.Files.{Files}
use Rattle.stage_file.specs.declared.raw.RawNet.{RawNet}
use Rattle.stage_file.specs.declared.fault.FileFault.{FileFault}
use Rattle.stage_file.specs.declared.stages.StageRow.{StageRow}
use Rattle.stage_file.specs.Stages.{stage_file_fault}
use Rattle.stage_file.specs.StageRecords.{stage_rows_of}
use Rattle.stage_file.specs.Tables.{table_file_fault}
use Rattle.stage_file.specs.Arcs.{names_of, arc_file_fault, arc_rows_of, AreArcRows}
use Rattle.stage_file.specs.Raw.{raw_fault, raw_of, IsRawNet}
use Rattle.stage_file.proofs.StageLimits as stage_limits
use Rattle.stage_file.proofs.TableLimits as table_limits
use Rattle.stage_file.proofs.ArcLimits as arc_limits
use Rattle.demand_tables.specs.DemandFaults.{bound_rules, excess_fault, IsExcessFault, IsDemandFault}
use Rattle.demand_tables.proofs.ExcessLaws.{one_excess}
use Rattle.demand_tables.proofs.NetFacts.{read_is_demand}
use Rattle.network_check.specs.declared.checked.Checked.{Checked}
use Rattle.network_check.specs.Checked.{supply_arcs, checked_from, IsNetworkOf}
use Rattle.network_check.specs.Refusals.{cycle_fault, IsFirstTogether, IsFirstRefusal}

-- the records of files on which no rule of one file fails are within their limits
pub raw_within : (horizon : ℕ) (files : Files) → raw_fault horizon files ≡ None → IsRawNet (raw_of horizon files)
raw_within horizon files none =
    let names = names_of (stage_rows_of horizon files.stages) in
    let each = first_of_none (stage_file_fault horizon files.stages ∷ table_file_fault files.tables ∷ arc_file_fault names files.arcs ∷ []) none in
    let arcs : AreArcRows (length names) (arc_rows_of names files.arcs) = arc_limits.read_within names files.arcs (Ok (arc_rows_of names files.arcs)) (each.1.1.0, refl) in
    record {
      stages = stage_limits.rows_within horizon files.stages each.0;
      tables = table_limits.rows_within files.tables each.1.0;
      arcs = subst (λ (count : ℕ). AreArcRows count (arc_rows_of names files.arcs)) (length-map (stage_rows_of horizon files.stages) (λ (s : StageRow). s.name)) arcs;
    }

lowest_is_one : (stages : ℕ) (arcs : List SupplyArc) (j k : ℕ) → IsLowestOnCycle stages arcs j → IsLowestOnCycle stages arcs k → j ≡ k
lowest_is_one stages arcs j k a b = elim (cases_lt j k) [
  | inl less ↦ absurd (b.lowest j less a.reaches)
  | inr more ↦ (elim (cases_lt k j) [ inl less ↦ absurd (a.lowest k less b.reaches) | inr not_less ↦ omega arith ])
]

-- the excess demands, and so the fault on them, are one
one_excess_fault : (raw : RawNet) (a b : Option FileFault) → IsRawNet raw → NoCycle (length raw.stages) (supply_arcs raw) → IsExcessFault raw a → IsExcessFault raw b → a ≡ b
one_excess_fault raw a b read acyclic is also =
    let lists = one_excess raw is.lists also.lists (read_is_demand raw read).ends acyclic is.excess also.excess in
    let order = one_order _ _ is.order also.order is.sorted also.sorted in
    is.first ∙ ap (λ (xs : List (List ℕ)). excess_fault raw xs is.order) lists ∙ ap (excess_fault raw also.lists) order ∙ sym also.first

one_demand_fault : (raw : RawNet) (bounds : Option FileFault) (a b : Option FileFault) → IsRawNet raw → NoCycle (length raw.stages) (supply_arcs raw)
    → MatchOption bounds (IsExcessFault raw a) (λ f. a ≡ Some f) → MatchOption bounds (IsExcessFault raw b) (λ f. b ≡ Some f) → a ≡ b
one_demand_fault raw None a b read acyclic is also = one_excess_fault raw a b read acyclic is also
one_demand_fault raw (Some f) a b read acyclic is also = is ∙ sym also

one_by_cycle : (raw : RawNet) (x y : Option ℕ) (a b : Option FileFault) → IsRawNet raw → IsFirstOnCycle (length raw.stages) (supply_arcs raw) x → IsFirstOnCycle (length raw.stages) (supply_arcs raw) y
    → MatchOption x (IsDemandFault raw a) (λ j. a ≡ Some (cycle_fault raw j)) → MatchOption y (IsDemandFault raw b) (λ j. b ≡ Some (cycle_fault raw j)) → a ≡ b
one_by_cycle raw None None a b read cycle again is also = one_demand_fault raw (first_of (bound_rules raw)) a b read cycle is also
one_by_cycle raw None (Some k) a b read cycle again is also = absurd (cycle k again.stage again.reaches)
one_by_cycle raw (Some j) None a b read cycle again is also = absurd (again j cycle.stage cycle.reaches)
one_by_cycle raw (Some j) (Some k) a b read cycle again is also =
    is ∙ ap (λ (i : ℕ). Some (cycle_fault raw i)) (lowest_is_one _ _ j k cycle again) ∙ sym also

-- the first rule that fails on records together is one
pub one_together : (raw : RawNet) (a b : Option FileFault) → IsRawNet raw → IsFirstTogether raw a → IsFirstTogether raw b → a ≡ b
one_together raw a b read is also = one_by_cycle raw is.0 also.0 a b read is.1 also.1 is.2 also.2

one_behind : (horizon : ℕ) (files : Files) (before : Option FileFault) (a b : Option FileFault) → raw_fault horizon files ≡ before
    → MatchOption before (IsFirstTogether (raw_of horizon files) a) (λ f. a ≡ Some f) → MatchOption before (IsFirstTogether (raw_of horizon files) b) (λ f. b ≡ Some f) → a ≡ b
one_behind horizon files None a b none is also = one_together (raw_of horizon files) a b (raw_within horizon files none) is also
one_behind horizon files (Some f) a b same is also = is ∙ sym also

-- the first rule that fails on files is one
pub one_refusal : (horizon : ℕ) (files : Files) (a b : Option FileFault) → IsFirstRefusal horizon files a → IsFirstRefusal horizon files b → a ≡ b
one_refusal horizon files a b is also = one_behind horizon files (raw_fault horizon files) a b refl is also

no_cycle : (raw : RawNet) (first : Option ℕ) → IsFirstOnCycle (length raw.stages) (supply_arcs raw) first
    → MatchOption first (IsDemandFault raw None) (λ j. (let none : Option FileFault = None in none ≡ Some (cycle_fault raw j))) → NoCycle (length raw.stages) (supply_arcs raw)
no_cycle raw None cycle is = cycle
no_cycle raw (Some j) cycle is = cc

-- the network of records is one
pub one_network_of : (raw : RawNet) (c d : Checked) → IsRawNet raw → IsFirstTogether raw None → IsNetworkOf raw c → IsNetworkOf raw d → c ≡ d
one_network_of raw c d read none is also =
    let lists = one_excess raw c.excess d.excess (read_is_demand raw read).ends (no_cycle raw none.0 none.1 none.2) is.excess also.excess in
    is.made ∙ ap (checked_from raw) lists ∙ sym also.made
