use Rattle.range_branch.proofs.ReplaceFacts.{replaced, taken}
use Rattle.range_branch.proofs.split.replace_least.Goals as goal

pub returns : goal.returns
returns c =
    let old = c.args.leaves.now in
    let rest = c.take_least-least.new.self in
    let least = c.take_least-least.ensures in
    let (x, parts, before) = taken c.take_least-least.result old rest c.args.leaf least.some least.least least.none c.requires.there in
    replaced old rest c.insert.new.self c.insert-2.new.self x c.args.leaf c.args.left c.args.right parts c.requires before c.in_ok-insert.ensures.ok c.in_ok-insert-2.ensures.ok
