-- How far the words of a seed are taken.
use Rattle.std.specs.Prelude.{◌≡◌, ℕ}
use Rattle.gsm_gen.specs.declared.draws.Draws.{Draws}
use Rattle.gsm_gen.specs.Words.{state_after}

-- so many words of the seed are taken
pub record HasTaken (d : Draws) (seed taken : ℕ) : Type 0 where
  pub state : d.generator ≡ state_after seed taken
