-- The demand order: where no stage reaches itself, taking the lowest ready stage takes all.
use Rattle.std.proofs.Common.{ℕ, List, length, map, ⊎_elim}
use Rattle.std.specs.Prelude.{All, Contains}
use Rattle.service_model.specs.Walks.{NoCycle}
use Rattle.service_model.specs.Orders.{IsFront}
use Rattle.stage_file.specs.declared.raw.RawNet.{RawNet}
use Rattle.demand_tables.specs.DemandFaults.{supply_arc, turned, IsDemandOrder}
use Rattle.demand_tables.specs.DemandNet.{JoinsStages}
use Rattle.demand_tables.proofs.ArcFacts.{supply_ends, turn_back}
use Rattle.demand_tables.proofs.Downstream.{cases_taken, downstream}

pub all_taken : (raw : RawNet) (order : List ℕ) → All (JoinsStages (length raw.stages)) raw.arcs → NoCycle (length raw.stages) (map supply_arc raw.arcs)
    → IsFront (length raw.stages) (map turned raw.arcs) order → IsDemandOrder raw order
all_taken raw order within acyclic front = record {
  next = front.next;
  each = downstream (length raw.stages) (map supply_arc raw.arcs) (λ j. Contains order j) (supply_ends (length raw.stages) raw.arcs within) acyclic
      (λ j low customers. ⊎_elim
      (λ inside. inside)
      (λ out. absurd (front.rest j (record { stage = low; new = out; suppliers = λ i lead. customers i (turn_back raw.arcs i j lead) })))
      (cases_taken order j));
}
