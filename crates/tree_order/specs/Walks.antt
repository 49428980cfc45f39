-- A walk on its way.
use Rattle.std.specs.Prelude.{◌≡◌, ℕ, ◌<◌, ◌≤◌, ◌++◌, ◌∷◌, [], false, true, List, length, slice_index_or, slice_set, take, Contains, MatchBool}
use Rattle.service_model.specs.declared.stage.SupplyArc.{SupplyArc}
use Rattle.service_model.specs.Marks.{Marks}
use Rattle.tree_order.specs.declared.links.Links.{Links}
use Rattle.tree_order.specs.declared.walk.Walk.{Walk}
use Rattle.tree_order.specs.Links.{HasLinks}
use Rattle.tree_order.specs.Steps.{IsWay, ComesNextSeen, HasParents}

-- each stage has the list of its arcs
abbrev pub AreLinks : Links → Type 0
AreLinks l = HasLinks l.stages l.arcs.now (length l.arcs.now) l.lists.items

-- the stage was seen, and nothing changes; or it comes to the end, with this parent
abbrev pub Sees : ℕ → ℕ → Walk → Walk → Type 0
Sees stage from w w' =
    MatchBool (slice_index_or w.marks stage false) (w' ≡ w)
    (w' ≡ record { marks = slice_set w.marks stage true; seen = w.seen ++ stage ∷ []; parent = slice_set w.parent stage from })

-- what a walk keeps at each step
pub record IsUnderWay (stages : ℕ) (arcs : List SupplyArc) (w : Walk) : Type 0 where
  pub marks : Marks w.marks w.seen
  pub marks_long : length w.marks ≡ stages
  pub long : length w.parent ≡ stages
  pub next : ComesNextSeen stages arcs w.seen
  pub parents : HasParents arcs w.seen w.parent

-- between two visits: no arc leads on from a place before `at`
pub record Between (l : Links) (at : ℕ) (w : Walk) : Type 0 where
  pub under_way : IsUnderWay l.stages l.arcs.now w
  pub left : (p a y : ℕ) → IsWay l.arcs.now w.seen p a y → at ≤ p
  pub within : at ≤ length w.seen

-- more was seen
pub record Grows (old new : List ℕ) : Type 0 where
  pub longer : length old ≤ length new
  pub front : take (length old) new ≡ old

-- the walk has seen all stages
pub record IsWholeWalk (stages : ℕ) (arcs : List SupplyArc) (w : Walk) : Type 0 where
  pub next : ComesNextSeen stages arcs w.seen
  pub each : (j : ℕ) → j < stages → Contains w.seen j
  pub long : length w.parent ≡ stages
  pub parents : HasParents arcs w.seen w.parent
