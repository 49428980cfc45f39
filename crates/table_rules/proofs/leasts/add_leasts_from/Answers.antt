-- One time fewer.
use Rattle.std.proofs.Common.{◌≡◌, ◌+◌, ◌-◌, drop, arith}
use Rattle.std.proofs.lemmas.Grind.{common_steps}
use Rattle.service_model.specs.LocalSums.{least_of}
use Rattle.table_rules.proofs.LeastFacts.{least_dropped}
use Rattle.table_rules.proofs.leasts.add_leasts_from.Goals as goal

pub times-preserved : goal.times-preserved
times-preserved c =
    let next = least_dropped c.args.values.now c.args.start c.args.shift (c.times.time - 1) c.times.time (omega arith) in
    let least : c.min-least.result ≡ least_of (drop (c.times.time - 1 + c.args.shift - c.args.start) c.args.values.now) =
    omega (arith, next, c.times.invariant.least_so_far, c.entry_from.ensures, c.min-least.ensures) in
    record {
      least_so_far = least;
      done = λ k low within. grind (arith, common_steps, c.times.invariant.done k, c.times.invariant.ahead k);
      ahead = λ k before. grind (arith, common_steps, c.times.invariant.ahead k);
    }
