-- The ranges of a certificate's nodes, and its leaves.
use Rattle.std.specs.Prelude.{◌≡◌, ◌≢◌, ℕ, ◌+◌, ◌*◌, ◌<◌, List, [], ◌∷◌, ◌++◌, length, take, slice_index_or, All}
use Rattle.service_model.specs.declared.plan.Plan.{Plan}
use Rattle.service_model.specs.declared.range.Range.{Range}
use Rattle.service_model.specs.declared.table.Table.{Table}
use Rattle.service_model.specs.Net.{Net}
use Rattle.service_model.specs.Ranges.{whole_of, HoldsTime, ended, started, IsIn}
use Rattle.service_model.specs.Nodes.{IsNode, bound_of}

-- what a split does: it cuts the range of a node after an outbound time of a stage
pub record Cut : Type 0 where
  pub node : ℕ
  pub stage : ℕ
  pub last : ℕ

-- what stands for a cut that there is not
abbrev pub no_cut : Cut
no_cut = record { node = 0; stage = 0; last = 0 }

-- cut k of a list
abbrev pub cut_at : List Cut → ℕ → Cut
cut_at cuts k = slice_index_or cuts k no_cut

-- what stands for a range that there is not
abbrev pub no_range : Range
no_range = record { least = []; most = [] }

-- range k of a list
abbrev pub range_at : List Range → ℕ → Range
range_at ranges k = slice_index_or ranges k no_range

-- the ranges with the two halves of the cut one behind them, the earlier times first
abbrev pub with_halves : List Range → Cut → List Range
with_halves ranges c =
    ranges ++ ended (range_at ranges c.node) c.stage c.last ∷ started (range_at ranges c.node) c.stage c.last ∷ []

-- the ranges with the halves of all cuts behind them, cut after cut
abbrev pub with_cuts : List Range → List Cut → List Range
with_cuts ranges [] = ranges
with_cuts ranges (c ∷ cuts) = with_cuts (with_halves ranges c) cuts

-- the ranges of all nodes: the whole range, and the two halves of each cut
abbrev pub ranges_of : Net → List Cut → List Range
ranges_of n cuts = with_cuts (whole_of n ∷ []) cuts

-- the range of node k
abbrev pub node_range : Net → List Cut → ℕ → Range
node_range n cuts k = range_at (ranges_of n cuts) k

-- node k is there, and no cut names it
pub record IsLeaf (cuts : List Cut) (k : ℕ) : Type 0 where
  pub there : k < 2 * length cuts + 1
  pub not_cut : All (λ c. c.node ≢ k) cuts

-- the cut names a leaf of the earlier cuts, whose interval of the stage holds the time
pub record IsCut (n : Net) (earlier : List Cut) (c : Cut) : Type 0 where
  pub leaf : IsLeaf earlier c.node
  pub holds : HoldsTime (node_range n earlier c.node) c.stage c.last

-- each cut names a leaf of the cuts before it, whose interval of the stage holds the time
abbrev pub AreCuts : Net → List Cut → Type 0
AreCuts n cuts = (k : ℕ) → k < length cuts → IsCut n (take k cuts) (cut_at cuts k)

-- the plan lies in the range of leaf k, and of no other leaf
pub record IsOnlyLeaf (n : Net) (cuts : List Cut) (p : Plan) (k : ℕ) : Type 0 where
  pub leaf : IsLeaf cuts k
  pub inside : IsIn n (node_range n cuts k) p
  pub only : (other : ℕ) → IsLeaf cuts other → IsIn n (node_range n cuts other) p → other ≡ k

-- the bound of node k over tables, by the roots of all nodes
abbrev pub node_bound : List Table → List (List ℕ) → ℕ → ℕ
node_bound tables roots k = bound_of tables (slice_index_or roots k [])

-- each node's tables fit its range
abbrev pub AreNodes : Net → List Table → List (List ℕ) → List Cut → Type 0
AreNodes n tables roots cuts =
    (k : ℕ) → k < 2 * length cuts + 1 → IsNode n tables (node_range n cuts k) (slice_index_or roots k [])
