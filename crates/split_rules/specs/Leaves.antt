-- The leaves of a certificate's nodes so far, and the one that is split next.
use Rattle.std.specs.Prelude.{◌≡◌, ◌≢◌, ◌⊎◌, ◌↔◌, ◌+◌, ◌*◌, ◌<◌, List, length, All, Contains}
use Rattle.service_model.specs.Net.{Net}
use Rattle.service_model.specs.Verdicts.{IsLeastBound}
use Rattle.service_model.specs.Held.{Held, cuts_of, roots_of, bound_at}
use Rattle.service_model.specs.Earned.{IsNext}
use Rattle.split_rules.specs.declared.leaves.Leaf.{Leaf}

-- the leaf a comes before the leaf b: its bound is less, or equal and its number is lower
abbrev pub IsBefore : Leaf → Leaf → Type 0
IsBefore a b = (a.bound < b.bound) ⊎ ((a.bound ≡ b.bound) × (a.node < b.node))

-- these are the nodes that came and that no split names, each with its bound
abbrev pub AreLeaves : Held → List Leaf → Type 0
AreLeaves h leaves =
    (q : Leaf) → Contains leaves q ↔ ((q.node < length h.nodes) × All (λ s. s.node ≢ q.node) h.splits × (q.bound ≡ bound_at h q.node))

-- the leaf is split next, and its bound is the least of all leaves
pub record IsNextOf (n : Net) (h : Held) (leaf : Leaf) : Type 0 where
  pub next : IsNext n h leaf.node
  pub bound : leaf.bound ≡ bound_at h leaf.node
  pub least : IsLeastBound h.tables (roots_of h) (cuts_of n h) leaf.bound

-- two nodes came for each split, and one more
abbrev pub AreNodesComplete : Held → Type 0
AreNodesComplete h = length h.nodes ≡ 2 * length h.splits + 1
