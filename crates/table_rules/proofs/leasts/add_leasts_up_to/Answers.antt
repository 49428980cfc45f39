-- One time more.
use Rattle.std.proofs.Common.{◌≡◌, ◌+◌, ◌-◌, take, arith}
use Rattle.std.proofs.lemmas.Grind.{common_steps}
use Rattle.service_model.specs.LocalSums.{least_of}
use Rattle.table_rules.proofs.LeastFacts.{least_taken}
use Rattle.table_rules.proofs.leasts.add_leasts_up_to.Goals as goal

pub times-preserved : goal.times-preserved
times-preserved c =
    let next = least_taken c.args.values.now c.args.start c.times.time in
    let least : c.min-least.result ≡ least_of (take (c.times.time + 1 - c.args.start) c.args.values.now) =
    omega (arith, next, c.times.invariant.least_so_far, c.entry_from.ensures, c.min-least.ensures) in
    record {
      least_so_far = least;
      done = λ k low. grind (arith, common_steps, c.times.invariant.done k, c.times.invariant.ahead k);
      ahead = λ k after. grind (arith, common_steps, c.times.invariant.ahead k);
    }
