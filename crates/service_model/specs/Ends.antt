-- The ends of arcs, as a set of pairs.
use Rattle.std.specs.Prelude.{ℕ, Bool}
use Rattle.std.specs.Ordering.{ordering_then, nat_cmp}
use Rattle.std.specs.declared.cmp.Ordering.{Ordering}
use Rattle.std.specs.BTreeSet.{BTreeSet, contains}
use Rattle.service_model.specs.declared.stage.SupplyArc.{SupplyArc}

-- pairs in the order of their first parts, and then of their second
abbrev pub pair_cmp : ℕ × ℕ → ℕ × ℕ → Ordering
pair_cmp x y = ordering_then (nat_cmp x.0 y.0) (nat_cmp x.1 y.1)

-- the set has the ends of an arc
abbrev pub has_ends : BTreeSet (ℕ × ℕ) → SupplyArc → Bool
has_ends met arc = contains pair_cmp met (arc.supplier, arc.customer)
