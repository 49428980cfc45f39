use Rattle.std.proofs.Common.{◌≡◌, ℕ}
use Rattle.gsm_gen.specs.Draws.{HasTaken}
use Rattle.gsm_gen.specs.Joins.{HasEnds}
use Rattle.gsm_gen.specs.Networks.{pair_word, arcs_after}
use Rattle.gsm_gen.proofs.arcs.draw_pairs.Given as goal

abbrev pub invariant-pairs : goal.invariant-pairs
invariant-pairs l = record {
  ends : HasEnds l.joins;
  so_far : (seed : ℕ) → HasTaken l.initial.draws seed (pair_word l.stages 0) → l.initial.joins.arcs ≡ arcs_after seed l.stages 0
      → (l.joins.arcs ≡ arcs_after seed l.stages l.e) × HasTaken l.draws seed (pair_word l.stages l.e);
}
