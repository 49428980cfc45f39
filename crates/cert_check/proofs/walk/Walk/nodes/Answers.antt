use Rattle.std.proofs.Common.{◌≡◌, ◌<◌, ◌+◌, ◌/◌, ◌++◌, List, length, map, drop, get_or, max, Ok, Err, sym, ap, ◌∙◌, subst, arith}
use Rattle.service_model.specs.declared.table.Table.{Table}
use Rattle.service_model.specs.declared.cert.Node.{Node}
use Rattle.service_model.specs.declared.cert.Split.{Split}
use Rattle.service_model.specs.declared.cert.Item.{Item}
use Rattle.service_model.specs.declared.cert.Item.TheVariants.{Table as TableItem, Split as SplitItem}
use Rattle.service_model.specs.Items.{items_from}
use Rattle.cert_check.specs.Walking.{Walks}
use Rattle.cert_check.proofs.WalkFacts.{walks_then, walks_no_further, node_items, node_items_are, nodes_next, nodes_left}
use Rattle.cert_check.proofs.walk.Walk.nodes.Goals as goal

pub nodes-preserved : goal.nodes-preserved
nodes-preserved c =
    let cert = c.args.cert.now in
    let at = c.nodes.invariant in
    let x = c.index-nodes-k.result in
    let new = c.node_between.new.self in
    let within : c.nodes.k < length cert.nodes = omega (arith, ap length c.as_slice-nodes.ensures) in
    let here : x ≡ get_or cert.nodes c.nodes.k x = subst (λ (xs : List Node). x ≡ get_or xs c.nodes.k x) c.as_slice-nodes.ensures c.index-nodes-k.is in
    let same = node_items_are cert c.nodes.k c.nodes.came x _ _ _ _ c.as_slice-tables.ensures c.as_slice-splits.ensures c.tables_between-new_tables.ensures c.split_behind.ensures in
    let part = node_items cert c.nodes.k c.nodes.came x in
    let walked = subst (λ (items : List Item). Walks c.nodes.self new items (Ok tt)) same c.in_default.ensures in
    let left = nodes_next cert c.nodes.k c.nodes.came x at.done (items_from cert 0 0 cert.nodes) within here at.left in
    record {
      done = at.done ++ part;
      walked = walks_then c.args.self.now c.nodes.self new at.done part (Ok tt) at.walked walked;
      left = subst (λ m. (at.done ++ part) ++ items_from cert (c.nodes.k + 1) m (drop (c.nodes.k + 1) cert.nodes) ≡ items_from cert 0 0 cert.nodes)
          (sym c.max-came.ensures) left;
    }

pub returns-in-Err : goal.returns-in-Err
returns-in-Err c =
    let cert = c.args.cert.now in
    let at = c.nodes.invariant in
    let x = c.index-nodes-k.result in
    let new = c.node_between.new.self in
    let within : c.nodes.k < length cert.nodes = omega (arith, ap length c.as_slice-nodes.ensures) in
    let here : x ≡ get_or cert.nodes c.nodes.k x = subst (λ (xs : List Node). x ≡ get_or xs c.nodes.k x) c.as_slice-nodes.ensures c.index-nodes-k.is in
    let same = node_items_are cert c.nodes.k c.nodes.came x _ _ _ _ c.as_slice-tables.ensures c.as_slice-splits.ensures c.tables_between-new_tables.ensures c.split_behind.ensures in
    let part = node_items cert c.nodes.k c.nodes.came x in
    let walked = subst (λ (items : List Item). Walks c.nodes.self new items (Err c.in-Err.fault)) same c.in-Err.ensures in
    let left = nodes_next cert c.nodes.k c.nodes.came x at.done (items_from cert 0 0 cert.nodes) within here at.left in
    subst (λ (items : List Item). Walks c.args.self.now new items (Err c.in-Err.fault)) left
    (walks_no_further c.args.self.now new new (at.done ++ part) (items_from cert (c.nodes.k + 1) (max c.nodes.came x.seen) (drop (c.nodes.k + 1) cert.nodes))
    c.in-Err.fault (walks_then c.args.self.now c.nodes.self new at.done part (Err c.in-Err.fault) at.walked walked))

pub returns : goal.returns
returns c =
    let cert = c.args.cert.now in
    let at = c.nodes.invariant in
    let k : c.nodes.k ≡ length cert.nodes = omega (arith, ap length c.as_slice-nodes.ensures) in
    let tables : c.left.result.now ≡ drop c.nodes.came cert.tables = c.left.ensures ∙ ap (drop c.nodes.came) c.as_slice-tables.ensures in
    let count : c.splits_among.result ≡ (c.nodes.k + 1) / 2 =
    c.splits_among.ensures ∙ ap (λ (xs : List Node). (length xs + 1) / 2) c.as_slice-nodes.ensures ∙ ap (λ j. (j + 1) / 2) (sym k) in
    let splits : c.left-2.result.now ≡ drop ((c.nodes.k + 1) / 2) cert.splits =
    c.left-2.ensures ∙ ap (λ j. drop j c.as_slice-splits.result.now) count ∙ ap (drop ((c.nodes.k + 1) / 2)) c.as_slice-splits.ensures in
    let rest : List Item = map (λ t. TableItem t) (drop c.nodes.came cert.tables) ++ map (λ s. SplitItem s) (drop ((c.nodes.k + 1) / 2) cert.splits) in
    let same : map (λ t. TableItem t) c.left.result.now ++ map (λ s. SplitItem s) c.left-2.result.now ≡ rest =
    ap (λ (ts : List Table). map (λ t. TableItem t) ts ++ map (λ s. SplitItem s) c.left-2.result.now) tables
    ∙ ap (λ (ss : List Split). map (λ t. TableItem t) (drop c.nodes.came cert.tables) ++ map (λ s. SplitItem s) ss) splits in
    let walked = subst (λ (items : List Item). Walks c.nodes.self c.rest.new.self items c.rest.result) same c.rest.ensures in
    subst (λ (items : List Item). Walks c.args.self.now c.rest.new.self items c.rest.result)
    (nodes_left cert c.nodes.k c.nodes.came at.done (items_from cert 0 0 cert.nodes) (omega (arith, k)) at.left)
    (walks_then c.args.self.now c.nodes.self c.rest.new.self at.done rest c.rest.result at.walked walked)
