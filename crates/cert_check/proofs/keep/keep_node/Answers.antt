use Rattle.std.proofs.Common.{◌≡◌, List, Option, sym, ap, ◌∙◌, subst}
use Rattle.service_model.specs.declared.cert_rules.TheConstants.{BUDGET, ROOT}
use Rattle.service_model.specs.declared.plan.Plan.{Plan}
use Rattle.service_model.specs.declared.table.Table.{Table}
use Rattle.service_model.specs.declared.cert.Node.{Node}
use Rattle.service_model.specs.Nodes.{bound_of}
use Rattle.cert_check.specs.Arrivals.{IsNodeMore}
use Rattle.cert_check.specs.Keeping.{IsKept}
use Rattle.cert_check.proofs.NodeFacts.{shaped_as, roots_there, roots_kinds}
use Rattle.cert_check.proofs.LeavesFacts.{fresh_leaf}
use Rattle.cert_check.proofs.KeepFacts.{node_kept, unchanged_kept}
use Rattle.cert_check.proofs.keep.keep_node.Goals as goal

pub node_bound-bound-requires-clause-shaped : goal.node_bound-bound-requires-clause-shaped
node_bound-bound-requires-clause-shaped c = shaped_as c.args.rules.now c.args.came.now.held.tables c.tables.result.now c.tables.ensures c.requires.kept.sound.tables

pub node_bound-bound-requires-clause-there : goal.node_bound-bound-requires-clause-there
node_bound-bound-requires-clause-there c =
    roots_there c.args.came.now.held.tables c.tables.result.now c.args.node.now.roots c.as_slice.result.now c.tables.ensures c.as_slice.ensures (c.requires.keeps ROOT)

pub node_bound-bound-requires-clause-kinds : goal.node_bound-bound-requires-clause-kinds
node_bound-bound-requires-clause-kinds c =
    roots_kinds c.args.came.now.held.tables c.tables.result.now c.args.node.now.roots c.as_slice.result.now c.tables.ensures c.as_slice.ensures (c.requires.keeps ROOT)

pub push_node-requires-clause-room : goal.push_node-requires-clause-room
push_node-requires-clause-room c = c.requires.keeps BUDGET

pub push_node-requires-clause-fresh : goal.push_node-requires-clause-fresh
push_node-requires-clause-fresh c = fresh_leaf c.args.came.now.held c.args.came.now.leaves c.node_bound-bound.result c.requires.kept.leaves

pub returns-in_err-push_node-clause-kept : goal.returns-in_err-push_node-clause-kept
returns-in_err-push_node-clause-kept c =
    unchanged_kept c.args.rules.now c.args.came.now c.push_node.new.self c.args.found.now c.requires.kept c.in_err-push_node.ensures.err

pub returns-clause-kept : goal.returns-clause-kept
returns-clause-kept c =
    let n = c.args.rules.now in
    let h = c.args.came.now.held in
    let bound : c.node_bound-bound.result ≡ bound_of h.tables c.args.node.now.roots =
    c.node_bound-bound.ensures ∙ ap (λ (ts : List Table). bound_of ts c.as_slice.result.now) c.tables.ensures ∙ ap (bound_of h.tables) c.as_slice.ensures in
    let came = subst (λ (x : Node). IsNodeMore c.args.came.now c.push_node.new.self x c.node_bound-bound.result) c.in_ok-copied.ensures c.in_ok-push_node.ensures.ok in
    let now = node_kept n c.args.came.now c.push_node.new.self c.args.node.now c.node_bound-bound.result c.args.found.now c.in_ok-later.later c.requires.kept
    c.requires.keeps c.in_ok-later.ensures bound came in
    subst (λ (found : Option Plan). IsKept n c.push_node.new.self found) (sym c.keep_better.ensures) now
