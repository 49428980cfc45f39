-- A search so far.
use Rattle.std.specs.Prelude.{◌≡◌, ◌⊎◌, ◌↔◌, ◌≢◌, ℕ, ◌+◌, ◌*◌, ◌<◌, ◌≤◌, List, [], ◌∷◌, ◌++◌, length, slice_index, Option, Some, None, Contains}
use Rattle.service_model.specs.declared.cert_rules.TheConstants.{MAX_BUDGET}
use Rattle.service_model.specs.declared.plan.Plan.{Plan}
use Rattle.service_model.specs.declared.range.Range.{Range}
use Rattle.service_model.specs.declared.table.Table.{Table}
use Rattle.service_model.specs.declared.cert.Head.{Head}
use Rattle.service_model.specs.declared.cert.Split.{Split}
use Rattle.service_model.specs.declared.cert.Verdict.{Verdict}
use Rattle.service_model.specs.declared.cert.Cert.{Cert}
use Rattle.service_model.specs.Net.{Net, stage_at}
use Rattle.service_model.specs.Networks.{IsNetwork}
use Rattle.service_model.specs.Orders.{IsTopological}
use Rattle.service_model.specs.Ranges.{HasIntervals}
use Rattle.service_model.specs.CertRanges.{ranges_of, range_at}
use Rattle.service_model.specs.Repairs.{Found, FoundOf, better}
use Rattle.service_model.specs.Held.{Held, none_held, held_after, node_at, cuts_of, roots_of, relaxed_of}
use Rattle.service_model.specs.Certs.{AllKeep}
use Rattle.cert_laws.specs.Grown.{IsWhole, open_items}
use Rattle.tree_order.specs.declared.forest.Forest.{Forest}
use Rattle.tree_order.specs.Forest.{IsForest}
use Rattle.open_leaves.specs.declared.leaf.Leaf.{Leaf}
use Rattle.range_splits.specs.Open.{AreLeaves}
use Rattle.range_branch.specs.declared.halves.Halves.{Halves}
use Rattle.range_nodes.specs.Nodes.{AreSearched, IsRangeNode}
use Rattle.search_laws.specs.Own.{AreInTurn}
use Rattle.range_branch.specs.declared.progress.Given.{Given}
use Rattle.range_branch.specs.declared.progress.Progress.{Progress}

-- what a search is given: a network, its forest, an order of its stages with suppliers first, and a budget of nodes
pub record IsGiven (g : Given) : Type 0 where
  pub valid : IsNetwork g.network.now
  pub forest : IsForest (length g.network.now.stages) g.network.now.arcs g.forest.now
  pub order : IsTopological (length g.network.now.stages) g.network.now.arcs g.order.now
  pub some : 1 ≤ g.budget
  pub most : g.budget ≤ MAX_BUDGET

-- the head of a certificate of the network within a budget
abbrev pub head_of : Net → ℕ → Head
head_of n budget = record { horizon = n.horizon; stages = length n.stages; budget = budget }

-- what came of the certificate so far
abbrev pub came : Net → ℕ → List Table → Progress → Held
came n budget tables p = record { head = Some (head_of n budget); tables = tables; nodes = p.nodes; splits = p.splits; verdict = None }

-- the certificate, were it to end with a verdict now
abbrev pub cert_with : Net → ℕ → List Table → Progress → Verdict → Cert
cert_with n budget tables p v = record { head = head_of n budget; tables = tables; nodes = p.nodes; splits = p.splits; verdict = v }

-- the range has intervals, each within that of the stage
pub record IsInside (n : Net) (r : Range) : Type 0 where
  pub intervals : HasIntervals n r
  pub inside : (j : ℕ) → j < length n.stages → ((stage_at n j).least ≤ slice_index r.least j) × (slice_index r.most j ≤ (stage_at n j).most)

-- node k is its range, relaxed
pub record IsNodeAt (n : Net) (f : Forest) (tables : List Table) (p : Progress) (k : ℕ) : Type 0 where
  pub range : IsInside n (range_at p.ranges k)
  pub node : IsRangeNode n f tables (range_at p.ranges k) (node_at p.nodes k)

-- a search so far: no rule fails on its items, its nodes are their ranges, each table came with the first node that uses it, its
-- leaves are known with their bounds, and the plan found is that of its nodes
pub record IsProgress (n : Net) (f : Forest) (budget : ℕ) (tables : List Table) (p : Progress) : Type 0 where
  pub whole : (v : Verdict) → IsWhole (cert_with n budget tables p v)
  pub keep : (v : Verdict) → AllKeep n none_held (open_items (cert_with n budget tables p v))
  pub held : (v : Verdict) → held_after none_held (open_items (cert_with n budget tables p v)) ≡ came n budget tables p
  pub within : length p.nodes ≤ budget
  pub searched : AreSearched n tables
  pub few : length tables ≤ length p.nodes * length n.stages
  pub ranges : p.ranges ≡ ranges_of n (cuts_of n (came n budget tables p))
  pub nodes : (k : ℕ) → k < length p.nodes → IsNodeAt n f tables p k
  pub turns : (v : Verdict) → (k : ℕ) → k < length p.nodes → AreInTurn f (cert_with n budget tables p v) k
  pub leaves : AreLeaves tables (roots_of (came n budget tables p)) (cuts_of n (came n budget tables p)) p.leaves
  pub found : Found n (relaxed_of (came n budget tables p)) p.found
  -- where no arc is dropped there is one node
  pub tree : f.dropped ≡ [] → length p.nodes ≡ 1

-- the plan found, with the repairs of one relaxed plan more
pub record IsFoundMore (n : Net) (relaxed old new : Option Plan) : Type 0 where
  pub next : Option Plan
  pub is_next : FoundOf n relaxed next
  pub better_is : new ≡ better n old next

-- a leaf gave way to two others
abbrev pub AreReplaced : List Leaf → List Leaf → Leaf → Leaf → Leaf → Type 0
AreReplaced old new leaf left right =
    (q : Leaf) → Contains new q ↔ ((Contains old q × (q ≢ leaf)) ⊎ ((q ≡ left) ⊎ (q ≡ right)))

-- a leaf by its bound and its node
abbrev pub leaf_of : ℕ → ℕ → Leaf
leaf_of bound node = record { bound = bound; node = node }

-- a leaf gave way to the two halves of its range
pub record IsSplit (n : Net) (old new : Progress) (leaf : Leaf) (s : Split) (h : Halves) : Type 0 where
  pub nodes : new.nodes ≡ (old.nodes ++ h.left_made.node ∷ []) ++ h.right_made.node ∷ []
  pub splits : new.splits ≡ old.splits ++ s ∷ []
  pub ranges : new.ranges ≡ (old.ranges ++ h.left ∷ []) ++ h.right ∷ []
  pub leaves : AreReplaced old.leaves new.leaves leaf (leaf_of h.left_made.bound (length old.nodes)) (leaf_of h.right_made.bound (length old.nodes + 1))
  pub between : Option Plan
  pub left : IsFoundMore n h.left_made.node.relaxed old.found between
  pub right : IsFoundMore n h.right_made.node.relaxed between new.found
