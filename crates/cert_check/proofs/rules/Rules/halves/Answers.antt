use Rattle.std.proofs.Common.{◌≡◌, sym, ap, ◌∙◌, subst}
use Rattle.std.specs.Prelude.{unwrap_or}
use Rattle.service_model.specs.declared.cert_rules.TheConstants.{SPLIT_PLAN, SPLIT_ARC}
use Rattle.service_model.specs.declared.cert.Node.{Node}
use Rattle.service_model.specs.Net.{Net}
use Rattle.service_model.specs.Tables.{Supplies}
use Rattle.service_model.specs.Held.{no_plan, relaxed_at}
use Rattle.service_model.proofs.NetworkFacts.{IsNetwork-HasEnds}
use Rattle.cert_check.proofs.PlaceFacts.{named_node}
use Rattle.cert_check.proofs.RangesFacts.{split_holds, split_holds_next}
use Rattle.cert_check.proofs.rules.Rules.halves.Goals as goal

pub range-range-requires-clause-there : goal.range-range-requires-clause-there
range-range-requires-clause-there c = (named_node c.args.self.now c.args.came.now.held c.args.split c.requires.kept.1.sound c.requires.keeps).1

pub node-requires : goal.node-requires
node-requires c = (named_node c.args.self.now c.args.came.now.held c.args.split c.requires.kept.1.sound c.requires.keeps).0

pub halves_of-requires-clause-arc : goal.halves_of-requires-clause-arc
halves_of-requires-clause-arc c =
    subst (λ (m : Net). Supplies m.arcs c.args.split.supplier c.args.split.customer) (sym c.self.view_is) (c.requires.keeps SPLIT_ARC).arc

pub halves_of-requires-clause-holds : goal.halves_of-requires-clause-holds
halves_of-requires-clause-holds c =
    let n = c.args.self.now in
    let h = c.args.came.now.held in
    let kept = c.requires.kept.1 in
    let plan : relaxed_at h.nodes c.args.split.node ≡ c.in-Some.plan =
    ap (λ (y : Node). unwrap_or y.relaxed no_plan) (sym c.node.ensures) ∙ ap (λ o. unwrap_or o no_plan) c.in-Some.is in
    split_holds n c.self.inside.network.now h c.args.split c.range-range.result.now c.in-Some.plan c.self.view_is (IsNetwork-HasEnds n kept.valid) kept.sound.cuts
    c.requires.keeps c.range-range.ensures.range plan

pub halves_of-requires-clause-next : goal.halves_of-requires-clause-next
halves_of-requires-clause-next c =
    let n = c.args.self.now in
    let h = c.args.came.now.held in
    let kept = c.requires.kept.1 in
    let plan : relaxed_at h.nodes c.args.split.node ≡ c.in-Some.plan =
    ap (λ (y : Node). unwrap_or y.relaxed no_plan) (sym c.node.ensures) ∙ ap (λ o. unwrap_or o no_plan) c.in-Some.is in
    split_holds_next n c.self.inside.network.now h c.args.split c.range-range.result.now c.in-Some.plan c.self.view_is (IsNetwork-HasEnds n kept.valid) kept.sound.cuts
    c.requires.keeps c.range-range.ensures.range plan

pub unreachable-requires : goal.unreachable-requires
unreachable-requires c =
    let there = (c.requires.keeps SPLIT_PLAN).there in
    let none = ap (λ (y : Node). y.relaxed) (sym c.node.ensures) ∙ c.in-None.is in
    cc (there, none)
