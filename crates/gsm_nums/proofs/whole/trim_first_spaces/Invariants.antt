use Rattle.std.proofs.Common.{◌≡◌, length}
use Rattle.gsm_nums.specs.Whole.{without_first_spaces}
use Rattle.gsm_nums.proofs.whole.trim_first_spaces.Given as goal

abbrev pub invariant-spaces : goal.invariant-spaces
invariant-spaces l = without_first_spaces l.rest ≡ without_first_spaces l.bytes

abbrev pub decreases-spaces : goal.decreases-spaces
decreases-spaces l = length l.rest
