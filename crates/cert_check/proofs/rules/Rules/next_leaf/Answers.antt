use Rattle.std.proofs.Common.{sym, ◌∙◌, subst}
use Rattle.split_rules.specs.Leaves.{AreLeaves}
use Rattle.cert_check.proofs.LeavesFacts.{some_leaf}
use Rattle.cert_check.proofs.rules.Rules.next_leaf.Goals as goal

pub unreachable-requires : goal.unreachable-requires
unreachable-requires c =
    let kept = c.requires.kept.1 in
    some_leaf c.args.self.now c.args.came.now.held c.args.came.now.leaves kept.sound c.requires.complete kept.leaves (sym c.leaves.ensures ∙ c.in-None.ensures.none)

pub returns : goal.returns
returns c =
    let h = c.args.came.now.held in
    c.in-Some.ensures.next c.args.self.now h (subst (AreLeaves h) (sym c.leaves.ensures) c.requires.kept.1.leaves) c.requires.complete
