-- What a checker keeps.
use Rattle.std.specs.Prelude.{◌≡◌, ℕ, ◌<◌, List, length, All, Option, None, IfSome, ◌↔◌}
use Rattle.service_model.specs.declared.plan.Plan.{Plan}
use Rattle.service_model.specs.declared.range.Range.{Range}
use Rattle.service_model.specs.Net.{Net}
use Rattle.service_model.specs.Plans.{HasTimes}
use Rattle.service_model.specs.Networks.{IsNetwork}
use Rattle.service_model.specs.Orders.{IsTopological}
use Rattle.service_model.specs.Ranges.{whole_of, HasIntervals}
use Rattle.service_model.specs.Repairs.{Found}
use Rattle.service_model.specs.CertNumbers.{TableInRange}
use Rattle.service_model.specs.Held.{cuts_of, relaxed_of}
use Rattle.service_model.specs.CertRules.{most_floor}
use Rattle.cert_laws.specs.SoFar.{SoundSoFar}
use Rattle.split_rules.specs.Leaves.{AreLeaves}
use Rattle.cert_check.specs.Arrivals.{Arrivals, halves_at, AreRangesOf}

-- an order of the network's stages, its whole range, its greatest floor and its horizon
pub record AreRules (n : Net) (order : List ℕ) (range : Range) (floor horizon : ℕ) : Type 0 where
  pub valid : IsNetwork n
  pub topological : IsTopological (length n.stages) n.arcs order
  pub whole : range ≡ whole_of n
  pub intervals : HasIntervals n range
  pub most : floor ≡ most_floor n
  pub scratch : horizon ≡ n.horizon

-- what came is sound, with tables in their ranges and relaxed plans that have times; the halves are the ranges of the
-- nodes behind the first, the leaves are the leaves, and this is the plan that what came finds
pub record IsKept (n : Net) (c : Arrivals) (found : Option Plan) : Type 0 where
  pub valid : IsNetwork n
  pub sound : SoundSoFar n c.held
  pub tables : All TableInRange c.held.tables
  pub times : All (λ x. IfSome x.relaxed (HasTimes n)) c.held.nodes
  pub paired : length c.halves ≡ length c.held.splits
  pub ranges : (k : ℕ) → k < length c.halves → AreRangesOf n (cuts_of n c.held) k (halves_at c.halves k)
  pub leaves : AreLeaves c.held c.leaves
  pub best : Found n (relaxed_of c.held) found

-- no rule failed on what came, and takes were refused exactly where there is a fault
pub record IsChecking (n : Net) (c : Arrivals) (found : Option Plan) (fault : Option ℕ) (stops : ℕ) : Type 0 where
  pub kept : IsKept n c found
  pub counted : (fault ≡ None) ↔ (stops ≡ 0)
