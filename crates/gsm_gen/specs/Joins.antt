-- Which stages arcs join, and which way they go.
use Rattle.std.specs.Prelude.{◌≡◌, ℕ, ◌==◌, ◌&&◌, ◌||◌, nat_lt, min, max, Bool, List, [], ◌∷◌, ◌++◌, map, if◌then◌else◌}
use Rattle.std.specs.List.{list_any}
use Rattle.trial_rows.specs.declared.drawn.TrialStage.{TrialStage}
use Rattle.trial_rows.specs.declared.drawn.TrialArc.{TrialArc}
use Rattle.trial_rows.specs.Trials.{stage_of}
use Rattle.gsm_gen.specs.declared.joins.Joins.{Joins}

-- stage i comes before stage j: by its rank, and among equal ranks by its number
abbrev pub is_before : List TrialStage → ℕ → ℕ → Bool
is_before stages i j =
    nat_lt (stage_of stages i).rank (stage_of stages j).rank || ((stage_of stages i).rank == (stage_of stages j).rank) && nat_lt i j

-- the arc between two stages, from the one that comes before
unfoldable pub directed : List TrialStage → ℕ → ℕ → TrialArc
directed stages i j =
    if is_before stages i j then record { supplier = i; customer = j } else record { supplier = j; customer = i }

-- the arc joins these two stages, whichever way it goes
abbrev pub joins : ℕ → ℕ → TrialArc → Bool
joins i j a = ((a.supplier == i) && (a.customer == j)) || ((a.supplier == j) && (a.customer == i))

-- one of the arcs joins these two stages
abbrev pub are_joined : List TrialArc → ℕ → ℕ → Bool
are_joined arcs i j = list_any (joins i j) arcs

-- the arcs with one more at their end, unless one of them joins the same stages
unfoldable pub with_arc : List TrialArc → TrialArc → List TrialArc
with_arc arcs a = if are_joined arcs a.supplier a.customer then arcs else arcs ++ a ∷ []

-- the ends of an arc, the lower first
abbrev pub ends_of : TrialArc → ℕ × ℕ
ends_of a = (min a.supplier a.customer, max a.supplier a.customer)

-- the ends that are kept are those of the arcs
pub record HasEnds (j : Joins) : Type 0 where
  pub ends : j.ends.keys ≡ map ends_of j.arcs
