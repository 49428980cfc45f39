use Rattle.std.proofs.Common.{[], ◌∷◌, map, Err}
use Rattle.service_model.specs.declared.cert.Item.TheVariants.{Table as TableItem, Node as NodeItem, Split as SplitItem}
use Rattle.cert_check.proofs.WalkFacts.{walks_then, walks_no_further}
use Rattle.cert_check.proofs.walk.Walk.node_between.Goals as goal

pub returns-in-Err : goal.returns-in-Err
returns-in-Err c =
    let new = c.tables.new.self in
    walks_no_further c.args.self.now new new (map (λ t. TableItem t) c.args.tables.now) (NodeItem c.args.node.now ∷ map (λ s. SplitItem s) c.args.splits.now)
    c.in-Err.fault c.in-Err.ensures

pub returns-in-Err-node : goal.returns-in-Err-node
returns-in-Err-node c =
    let splits = map (λ s. SplitItem s) c.args.splits.now in
    let new = c.node.new.self in
    walks_then c.args.self.now c.tables.new.self new (map (λ t. TableItem t) c.args.tables.now) (NodeItem c.args.node.now ∷ splits) (Err c.in-Err-node.fault)
    c.in_default.ensures (walks_no_further c.tables.new.self new new (NodeItem c.args.node.now ∷ []) splits c.in-Err-node.fault c.in-Err-node.ensures)

pub returns : goal.returns
returns c =
    let splits = map (λ s. SplitItem s) c.args.splits.now in
    walks_then c.args.self.now c.tables.new.self c.splits.new.self (map (λ t. TableItem t) c.args.tables.now) (NodeItem c.args.node.now ∷ splits) c.splits.result
    c.in_default.ensures
    (walks_then c.tables.new.self c.node.new.self c.splits.new.self (NodeItem c.args.node.now ∷ []) splits c.splits.result c.in_default-node.ensures c.splits.ensures)
