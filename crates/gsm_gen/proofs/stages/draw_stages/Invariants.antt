use Rattle.std.proofs.Common.{◌≡◌, ℕ, ◌*◌}
use Rattle.gsm_gen.specs.Draws.{HasTaken}
use Rattle.gsm_gen.specs.Networks.{drawn_stages}
use Rattle.gsm_gen.proofs.stages.draw_stages.Given as goal

abbrev pub invariant-stages : goal.invariant-stages
invariant-stages l = (seed : ℕ) → HasTaken l.initial.draws seed 0 → (l.stages ≡ drawn_stages seed l.horizon l.k) × HasTaken l.draws seed (4 * l.k)
