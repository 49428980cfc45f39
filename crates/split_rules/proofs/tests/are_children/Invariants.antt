-- The children behind are earlier tables that may hang there.
use Rattle.std.proofs.Common.{◌<◌, take}
use Rattle.std.specs.Prelude.{All}
use Rattle.service_model.specs.Tables.{table_at, IsChild}
use Rattle.split_rules.proofs.tests.are_children.Given as goal

abbrev pub invariant-children : goal.invariant-children
invariant-children l =
    All (λ c. (c < l.number) × IsChild (table_at l.tables c).kind l.network.arcs (table_at l.tables c).stage l.stage) (take l.child-index l.children)
