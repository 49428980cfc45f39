-- The halves of a node's range at a split.
use Rattle.std.specs.Prelude.{◌≡◌, ℕ, ◌-◌}
use Rattle.service_model.specs.declared.plan.Plan.{Plan}
use Rattle.service_model.specs.declared.range.Range.{Range}
use Rattle.service_model.specs.declared.cert.Split.{Split}
use Rattle.service_model.specs.Net.{Net}
use Rattle.service_model.specs.Plans.{inbound_at}
use Rattle.service_model.specs.Tables.{transit_in}
use Rattle.service_model.specs.Ranges.{HasIntervals, ended, started}
use Rattle.split_rules.specs.declared.halves.Halves.{Halves}

-- the last outbound time of the split's supplier that the plan's customer waits for
abbrev pub last_of : Net → Plan → Split → ℕ
last_of n p s = inbound_at p s.customer - transit_in n.arcs s.supplier s.customer

-- the range with the supplier's interval ended at that time, and with it started behind that time
pub record AreHalves (n : Net) (r : Range) (p : Plan) (s : Split) (h : Halves) : Type 0 where
  pub left : h.left ≡ ended r s.supplier (last_of n p s)
  pub right : h.right ≡ started r s.supplier (last_of n p s)
  pub left_intervals : HasIntervals n h.left
  pub right_intervals : HasIntervals n h.right
