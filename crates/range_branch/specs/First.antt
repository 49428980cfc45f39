-- A search of one node.
use Rattle.std.specs.Prelude.{◌≡◌, ◌↔◌, ℕ, List, [], ◌∷◌, Option, Contains}
use Rattle.service_model.specs.declared.plan.Plan.{Plan}
use Rattle.service_model.specs.declared.range.Range.{Range}
use Rattle.open_leaves.specs.declared.leaf.Leaf.{Leaf}
use Rattle.range_nodes.specs.declared.made.Made.{Made}
use Rattle.range_branch.specs.declared.progress.Progress.{Progress}

-- the first node is the only leaf
abbrev pub HasOneLeaf : ℕ → List Leaf → Type 0
HasOneLeaf bound leaves = (q : Leaf) → Contains leaves q ↔ (q ≡ record { bound = bound; node = 0 })

-- the search has this node alone, with its range, as its leaf, and this plan found
pub record IsFirst (r : Range) (m : Made) (found : Option Plan) (p : Progress) : Type 0 where
  pub nodes : p.nodes ≡ m.node ∷ []
  pub splits : p.splits ≡ []
  pub ranges : p.ranges ≡ r ∷ []
  pub leaves : HasOneLeaf m.bound p.leaves
  pub found_is : p.found ≡ found
