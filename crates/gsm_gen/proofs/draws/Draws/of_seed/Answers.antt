use Rattle.std.proofs.Common.{◌∙◌, arith}
use Rattle.gsm_gen.proofs.WordFacts.{state_first}
use Rattle.gsm_gen.proofs.draws.Draws.of_seed.Goals as goal

pub returns : goal.returns
returns c = record { state = c.seed_from_u64.ensures.same ∙ state_first c.args.seed (omega arith) }
