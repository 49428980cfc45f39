use Rattle.std.proofs.Common.{◌≡◌, length, ap, ◌∙◌, arith}
use Rattle.network_check.proofs.LimitFacts.{IsWithin}
use Rattle.network_check.proofs.StageFacts.{length-stages_from}
use Rattle.network_check.proofs.TogetherFacts.{never_refused}
use Rattle.network_check.proofs.network.network_of.Goals as goal

pub new-requires-clause-few_stages : goal.new-requires-clause-few_stages
new-requires-clause-few_stages c =
    let raw = c.args.raw.now in
    let few = c.requires.read.stages.few in
    let size : length c.in_ok-stages.stages ≡ length raw.stages = ap length c.in_ok-stages.ensures ∙ length-stages_from raw.stages c.args.excess.now c.requires.long in
    omega (arith, size, few)

pub unreachable-requires : goal.unreachable-requires
unreachable-requires c =
    let raw = c.args.raw.now in
    let is : IsWithin raw c.args.excess.now = record {
      horizon = c.requires.horizon;
      read = c.requires.read;
      acyclic = c.requires.acyclic;
      long = c.requires.long;
      within = c.requires.within;
    } in
    never_refused raw c.args.excess.now c.in_ok-stages.stages c.args.arcs c.in-Err-Rule.field-0-0 c.in-Err-Rule.field-0 c.new.result is c.in_ok-stages.ensures c.requires.arcs c.new.ensures c.in-Err-Rule.is c.in-Err-Rule.field-0-is
