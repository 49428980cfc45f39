-- A range of a network with the floors of the stages in it.
use Rattle.service_model.specs.Ranges.{HasIntervals, AreFloors}
use Rattle.node_rules.specs.declared.fits.Floored.{Floored}

-- the range has an interval for each stage, and the floors are those of the stages in it
pub record IsFloored (f : Floored) : Type 0 where
  pub range : HasIntervals f.network.now f.range.now
  pub floors : AreFloors f.network.now f.range.now f.floors
