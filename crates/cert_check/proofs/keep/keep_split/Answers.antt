use Rattle.std.proofs.Common.{◌≡◌, List, sym, ap, ◌∙◌}
use Rattle.service_model.specs.declared.table.Table.{Table}
use Rattle.service_model.specs.declared.cert.Node.{Node}
use Rattle.service_model.specs.Nodes.{bound_of}
use Rattle.service_model.specs.Held.{node_at, bound_at}
use Rattle.cert_check.proofs.PlaceFacts.{named_node}
use Rattle.cert_check.proofs.NodeFacts.{shaped_as, roots_there, roots_kinds}
use Rattle.cert_check.proofs.LeavesFacts.{bound_is}
use Rattle.cert_check.proofs.KeepFacts.{split_kept, unchanged_kept}
use Rattle.cert_check.proofs.keep.keep_split.Goals as goal

pub node-node-requires : goal.node-node-requires
node-node-requires c = (named_node c.args.rules.now c.args.came.now.held c.args.split c.requires.kept.sound c.requires.keeps).0

pub node_bound-bound-requires-clause-shaped : goal.node_bound-bound-requires-clause-shaped
node_bound-bound-requires-clause-shaped c = shaped_as c.args.rules.now c.args.came.now.held.tables c.tables.result.now c.tables.ensures c.requires.kept.sound.tables

pub node_bound-bound-requires-clause-there : goal.node_bound-bound-requires-clause-there
node_bound-bound-requires-clause-there c =
    let h = c.args.came.now.held in
    let there = (named_node c.args.rules.now h c.args.split c.requires.kept.sound c.requires.keeps).0 in
    let node = c.requires.kept.sound.nodes c.args.split.node there in
    roots_there h.tables c.tables.result.now (node_at h.nodes c.args.split.node).roots c.as_slice.result.now c.tables.ensures
    (c.as_slice.ensures ∙ ap (λ (x : Node). x.roots) c.node-node.ensures) (λ k d within. (node.there k d within, node.kinds k d within))

pub node_bound-bound-requires-clause-kinds : goal.node_bound-bound-requires-clause-kinds
node_bound-bound-requires-clause-kinds c =
    let h = c.args.came.now.held in
    let there = (named_node c.args.rules.now h c.args.split c.requires.kept.sound c.requires.keeps).0 in
    let node = c.requires.kept.sound.nodes c.args.split.node there in
    roots_kinds h.tables c.tables.result.now (node_at h.nodes c.args.split.node).roots c.as_slice.result.now c.tables.ensures
    (c.as_slice.ensures ∙ ap (λ (x : Node). x.roots) c.node-node.ensures) (λ k d within. (node.there k d within, node.kinds k d within))

pub returns-in_err-push_split-clause-kept : goal.returns-in_err-push_split-clause-kept
returns-in_err-push_split-clause-kept c =
    unchanged_kept c.args.rules.now c.args.came.now c.push_split.new.self c.args.found.now c.requires.kept c.in_err-push_split.ensures.err

pub returns-clause-kept : goal.returns-clause-kept
returns-clause-kept c =
    let n = c.args.rules.now in
    let h = c.args.came.now.held in
    let there = (named_node n h c.args.split c.requires.kept.sound c.requires.keeps).0 in
    let bound : c.node_bound-bound.result ≡ bound_at h c.args.split.node =
    c.node_bound-bound.ensures ∙ ap (λ (ts : List Table). bound_of ts c.as_slice.result.now) c.tables.ensures
    ∙ ap (bound_of h.tables) (c.as_slice.ensures ∙ ap (λ (x : Node). x.roots) c.node-node.ensures) ∙ sym (bound_is h c.args.split.node there) in
    split_kept n c.args.came.now c.push_split.new.self c.args.split c.in_ok-halves.halves c.node_bound-bound.result c.args.found.now c.requires.kept c.requires.keeps
    c.in_ok-halves.ensures bound c.in_ok-push_split.ensures.ok
