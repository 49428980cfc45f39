-- How many tables a relaxation fills.
use Rattle.std.specs.Prelude.{◌≡◌, ℕ, ◌+◌, List, [], length}
use Rattle.service_model.specs.declared.range.Range.{Range}
use Rattle.service_model.specs.declared.table.Table.{Table}
use Rattle.service_model.specs.Net.{Net}
use Rattle.tree_order.specs.declared.forest.Forest.{Forest}
use Rattle.arc_relax.specs.declared.relaxed.Relaxed.{Relaxed}
use Rattle.arc_relax.specs.Relaxations.{IsRelaxed}

-- a relaxation that begins with an empty pool fills one table for each stage
abbrev pub StepLaw : Type 0
StepLaw = (n : Net) (f : Forest) (r : Range) (new : List Table) (count count' : ℕ) (x : Relaxed) → IsRelaxed n f r [] new count count' x → count' ≡ count + length n.stages
