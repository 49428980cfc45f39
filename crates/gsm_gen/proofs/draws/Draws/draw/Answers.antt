use Rattle.std.proofs.Common.{◌≡◌, refl, ap, ◌∙◌}
use Rattle.rand_xoshiro.specs.SplitMix64.{mix_u64}
use Rattle.gsm_gen.specs.Words.{word}
use Rattle.gsm_gen.proofs.WordFacts.{word_next, state_next}
use Rattle.gsm_gen.proofs.draws.Draws.draw.Goals as goal

pub returns-clause-value : goal.returns-clause-value
returns-clause-value c seed taken has =
    let given : c.next_word-word.result ≡ word seed taken = ap (λ p. p.0) c.next_word-word.ensures ∙ ap (λ s. (mix_u64 s).0) has.state ∙ word_next seed taken in
    rw (given, c.from.ensures) refl

pub returns-clause-next : goal.returns-clause-next
returns-clause-next c seed taken has = record {
  state = ap (λ p. p.1) c.next_word-word.ensures ∙ ap (λ s. (mix_u64 s).1) has.state ∙ state_next seed taken;
}
