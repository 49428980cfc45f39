-- The list has those of the arcs that were gone through.
use Rattle.std.proofs.Common.{◌≢◌, get_or}
use Rattle.service_model.specs.Net.{arc_in}
use Rattle.service_model.specs.Forests.{ArePicked}
use Rattle.cluster_split.proofs.numbers.arcs_between.Given as goal

abbrev pub invariant-arcs : goal.invariant-arcs
invariant-arcs l = ArePicked (λ a. get_or l.numbers (arc_in l.arcs a).supplier 0 ≢ get_or l.numbers (arc_in l.arcs a).customer 0) l.number l.between
