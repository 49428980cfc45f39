use Rattle.std.proofs.Common.{[], ◌∷◌, ◌++◌, Err}
use Rattle.service_model.specs.declared.cert.Item.TheVariants.{Head as HeadItem, End as EndItem}
use Rattle.service_model.specs.Items.{items_from}
use Rattle.cert_check.proofs.WalkFacts.{walks_then, walks_no_further}
use Rattle.cert_check.proofs.walk.Walk.cert.Goals as goal

pub returns-in-Err : goal.returns-in-Err
returns-in-Err c =
    let cert = c.args.cert.now in
    let new = c.head.new.self in
    walks_no_further c.args.self.now new new (HeadItem cert.head ∷ []) (items_from cert 0 0 cert.nodes ++ EndItem cert.verdict ∷ []) c.in-Err.fault c.in-Err.ensures

pub returns-in-Err-nodes : goal.returns-in-Err-nodes
returns-in-Err-nodes c =
    let cert = c.args.cert.now in
    let new = c.nodes.new.self in
    walks_then c.args.self.now c.head.new.self new (HeadItem cert.head ∷ []) (items_from cert 0 0 cert.nodes ++ EndItem cert.verdict ∷ []) (Err c.in-Err-nodes.fault)
    c.in_default.ensures
    (walks_no_further c.head.new.self new new (items_from cert 0 0 cert.nodes) (EndItem cert.verdict ∷ []) c.in-Err-nodes.fault c.in-Err-nodes.ensures)

pub returns : goal.returns
returns c =
    let cert = c.args.cert.now in
    let new = c.end.new.self in
    walks_then c.args.self.now c.head.new.self new (HeadItem cert.head ∷ []) (items_from cert 0 0 cert.nodes ++ EndItem cert.verdict ∷ []) c.end.result c.in_default.ensures
    (walks_then c.head.new.self c.nodes.new.self new (items_from cert 0 0 cert.nodes) (EndItem cert.verdict ∷ []) c.end.result c.in_default-nodes.ensures c.end.ensures)
