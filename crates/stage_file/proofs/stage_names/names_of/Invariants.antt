use Rattle.std.proofs.Common.{◌≡◌, take}
use Rattle.stage_file.specs.Arcs.{names_of}
use Rattle.stage_file.proofs.stage_names.names_of.Given as goal

abbrev pub invariant-stages : goal.invariant-stages
invariant-stages l = l.names ≡ names_of (take l.k l.stages)
