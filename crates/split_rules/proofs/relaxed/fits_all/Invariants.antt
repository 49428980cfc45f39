-- The plan's times of the stages behind fit the range.
use Rattle.std.proofs.Common.{ℕ, ◌<◌}
use Rattle.service_model.specs.Relaxed.{FitsRange}
use Rattle.split_rules.proofs.relaxed.fits_all.Given as goal

abbrev pub invariant-stages : goal.invariant-stages
invariant-stages l = (j : ℕ) → j < l.stage → FitsRange l.network l.range l.plan j
