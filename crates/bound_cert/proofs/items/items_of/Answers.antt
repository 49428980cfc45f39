use Rattle.std.proofs.Common.{rules}
use Rattle.bound_cert.proofs.ItemsFacts.{items_on_from}
use Rattle.bound_cert.proofs.items.items_of.Goals as goal

pub nodes-init : goal.nodes-init
nodes-init c =
    let all = c.into_iter-node-iterator.ensures.into_iter_gives.0 in
    record {
      made = rw (
        c.in_ok-push.ensures.ok,
        c.new-items.ensures,
        c.new.ensures,
        c.new-2.ensures,
        all,
        c.into_vec-node-items.ensures,
        items_on_from c.args.cert c.args.cert.nodes 0 0,
      );
      long = search rules;
    }
