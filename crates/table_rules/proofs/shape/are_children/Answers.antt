-- All children were gone through.
use Rattle.std.proofs.Common.{ℕ, arith, rules}
use Rattle.std.proofs.lemmas.List.Elements.{All-from_get_or}
use Rattle.service_model.specs.Tables.{IsChild, table_at}
use Rattle.table_rules.proofs.shape.are_children.Goals as goal

pub returns : goal.returns
returns c =
    let fits = λ (child : ℕ). IsChild (table_at c.args.earlier.now child).kind c.args.network.now.arcs (table_at c.args.earlier.now child).stage c.args.stage in
    (λ _. All-from_get_or fits c.args.children.now 0 (λ k within. c.children.invariant k (omega arith)), λ _. search rules)
