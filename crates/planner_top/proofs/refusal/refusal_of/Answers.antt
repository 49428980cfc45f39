use Rattle.std.proofs.Common.{[], ◌∷◌, refl}
use Rattle.planner_top.specs.Stops.{stop_row}
use Rattle.planner_top.proofs.refusal.refusal_of.Goals as goal

pub returns : goal.returns
returns c = (stop_row c.args.stop ∷ [], c.in_ok-text.ensures, (c.ending_of.ensures, refl, refl, refl))
