use Rattle.std.proofs.Common.{◌≡◌, length}
use Rattle.gsm_nums.specs.Whole.{without_last_spaces}
use Rattle.gsm_nums.proofs.whole.trim_last_spaces.Given as goal

abbrev pub invariant-spaces : goal.invariant-spaces
invariant-spaces l = without_last_spaces l.rest ≡ without_last_spaces l.bytes

abbrev pub decreases-spaces : goal.decreases-spaces
decreases-spaces l = length l.rest
