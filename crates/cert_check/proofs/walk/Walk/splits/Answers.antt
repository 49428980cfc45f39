use Rattle.std.proofs.Common.{◌<◌, length, arith}
use Rattle.service_model.specs.declared.cert.Split.{Split}
use Rattle.service_model.specs.declared.cert.Item.TheVariants.{Split as SplitItem}
use Rattle.cert_check.proofs.WalkFacts.{walks_next, walks_stop}
use Rattle.cert_check.proofs.walk.Walk.splits.Goals as goal

abbrev no_split : Split
no_split = record { node = 0; supplier = 0; customer = 0 }

pub returns-in-Err : goal.returns-in-Err
returns-in-Err c =
    let within : c.splits.split-index < length c.args.splits.now = omega arith in
    walks_stop (λ s. SplitItem s) c.args.splits.now c.splits.split-index no_split c.args.self.now c.splits.self c.split.new.self c.in-Err.fault within
    c.splits.invariant c.in-Err.ensures

pub splits-preserved : goal.splits-preserved
splits-preserved c =
    let within : c.splits.split-index < length c.args.splits.now = omega arith in
    walks_next (λ s. SplitItem s) c.args.splits.now c.splits.split-index no_split c.args.self.now c.splits.self c.split.new.self within
    c.splits.invariant c.in_default.ensures
