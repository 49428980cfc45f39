-- Walks along arcs, and stages that reach themselves.
use Rattle.std.specs.Prelude.{◌≡◌, ℕ, zero, suc, ◌<◌, List, length, Option, MatchOption}
use Rattle.service_model.specs.declared.stage.SupplyArc.{SupplyArc}
use Rattle.service_model.specs.Net.{arc_in}

-- an arc leads from stage i to stage j
abbrev pub Leads : List SupplyArc → ℕ → ℕ → Type 0
Leads arcs i j = (a : ℕ) × (a < length arcs) × ((arc_in arcs a).supplier ≡ i) × ((arc_in arcs a).customer ≡ j)

-- so many arcs lead from stage i to stage j, one after the other
abbrev pub Walk : List SupplyArc → ℕ → ℕ → ℕ → Type 0
Walk arcs i j zero = i ≡ j
Walk arcs i j (suc n) = (m : ℕ) × Walk arcs i m n × Leads arcs m j

-- a stage reaches itself along arcs
abbrev pub ReachesItself : List SupplyArc → ℕ → Type 0
ReachesItself arcs j = (n : ℕ) × Walk arcs j j (suc n)

-- no stage reaches itself
abbrev pub NoCycle : ℕ → List SupplyArc → Type 0
NoCycle stages arcs = (j : ℕ) → j < stages → ¬ ReachesItself arcs j

-- the lowest stage that reaches itself
pub record IsLowestOnCycle (stages : ℕ) (arcs : List SupplyArc) (j : ℕ) : Type 0 where
  pub stage : j < stages
  pub reaches : ReachesItself arcs j
  pub lowest : (k : ℕ) → k < j → ¬ ReachesItself arcs k

-- the lowest stage that reaches itself, none where no stage does
abbrev pub IsFirstOnCycle : ℕ → List SupplyArc → Option ℕ → Type 0
IsFirstOnCycle stages arcs first = MatchOption first (NoCycle stages arcs) (IsLowestOnCycle stages arcs)
