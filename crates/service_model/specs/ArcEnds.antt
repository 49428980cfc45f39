-- The ends of arcs, as pairs.
use Rattle.std.specs.Prelude.{ℕ, ◌==◌, ◌&&◌, Bool}
use Rattle.service_model.specs.declared.stage.SupplyArc.{SupplyArc}

-- the supplier and the customer of an arc
abbrev pub ends_of : SupplyArc → ℕ × ℕ
ends_of a = (a.supplier, a.customer)

-- the pair is of stage i and stage j
abbrev pub has_these : ℕ → ℕ → ℕ × ℕ → Bool
has_these i j e = (i == e.0) && (j == e.1)
