use Rattle.std.proofs.Common.{map}
use Rattle.service_model.specs.declared.cert.Item.TheVariants.{Table as TableItem, Split as SplitItem}
use Rattle.cert_check.proofs.WalkFacts.{walks_then, walks_no_further}
use Rattle.cert_check.proofs.walk.Walk.rest.Goals as goal

pub returns-in-Err : goal.returns-in-Err
returns-in-Err c =
    let new = c.tables.new.self in
    walks_no_further c.args.self.now new new (map (λ t. TableItem t) c.args.tables.now) (map (λ s. SplitItem s) c.args.splits.now) c.in-Err.fault c.in-Err.ensures

pub returns : goal.returns
returns c =
    walks_then c.args.self.now c.tables.new.self c.splits.new.self (map (λ t. TableItem t) c.args.tables.now) (map (λ s. SplitItem s) c.args.splits.now)
    c.splits.result c.in_default.ensures c.splits.ensures
