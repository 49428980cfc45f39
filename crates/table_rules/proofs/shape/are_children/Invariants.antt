-- The children that were gone through may be children.
use Rattle.std.proofs.Common.{ℕ, ◌<◌, get_or}
use Rattle.service_model.specs.Tables.{IsChild, table_at}
use Rattle.table_rules.proofs.shape.are_children.Given as goal

abbrev pub invariant-children : goal.invariant-children
invariant-children l =
    (k : ℕ) → k < l.child-index
    → IsChild (table_at l.earlier (get_or l.children k 0)).kind l.network.arcs (table_at l.earlier (get_or l.children k 0)).stage l.stage
