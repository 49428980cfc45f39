use Rattle.std.proofs.Common.{◌≡◌, map, take}
use Rattle.std.specs.List.{zip}
use Rattle.network_check.proofs.StageFacts.{stage_of_pair}
use Rattle.network_check.proofs.records.stages_of.Given as goal

abbrev pub invariant-stages : goal.invariant-stages
invariant-stages l = l.stages ≡ map stage_of_pair (take l.k (zip l.raw.stages l.excess))
