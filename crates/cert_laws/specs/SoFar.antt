-- What holds of the items of a certificate that came, where no rule fails on any.
use Rattle.std.specs.Prelude.{◌≡◌, ℕ, ◌+◌, ◌*◌, ◌<◌, ◌≤◌, length, All, Some}
use Rattle.service_model.specs.declared.cert.Verdict.{Verdict}
use Rattle.service_model.specs.Net.{Net}
use Rattle.service_model.specs.LocalSums.{Sound}
use Rattle.service_model.specs.Nodes.{IsNode}
use Rattle.service_model.specs.CertRanges.{AreCuts}
use Rattle.service_model.specs.Verdicts.{IsTrueOf}
use Rattle.service_model.specs.Held.{Held, node_at, cuts_of, range_of}

-- the tables are sound, the nodes fit their ranges, the splits cut leaves and name nodes, two nodes for each, and the
-- verdict is true
pub record SoundSoFar (n : Net) (h : Held) : Type 0 where
  pub tables : Sound n h.tables
  pub nodes : (k : ℕ) → k < length h.nodes → IsNode n h.tables (range_of n h k) (node_at h.nodes k).roots
  pub cuts : AreCuts n (cuts_of n h)
  pub few : length h.nodes ≤ 2 * length h.splits + 1
  pub named : All (λ s. s.node < length h.nodes) h.splits
  pub verdict : (v : Verdict) → h.verdict ≡ Some v → IsTrueOf n v
