use Rattle.std.proofs.Common.{◌≡◌, map, take}
use Rattle.service_model.specs.ArcEnds.{ends_of}
use Rattle.service_model.proofs.arc_ends.ArcEnds.of.Given as goal

abbrev pub invariant-arcs : goal.invariant-arcs
invariant-arcs l = l.pairs.keys ≡ map ends_of (take l.arc-index l.arcs)
