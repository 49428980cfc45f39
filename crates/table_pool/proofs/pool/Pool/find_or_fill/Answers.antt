-- The wanted table comes to the end of a pool that did not hold it.
use Rattle.std.proofs.Common.{[], ◌∷◌, ◌++◌, ◌∙◌, List, length, ap, subst}
use Rattle.service_model.specs.declared.table.Table.{Table}
use Rattle.tree_tables.specs.Fills.{IsFill}
use Rattle.table_pool.specs.Pools.{HasWanted}
use Rattle.table_pool.specs.Signatures.{signed_by}
use Rattle.table_pool.proofs.PoolFacts.{was_added}
use Rattle.table_pool.proofs.SignatureFacts.{none_wanted}
use Rattle.table_pool.proofs.pool.Pool.find_or_fill.Goals as goal

pub returns-clause-ok : goal.returns-clause-ok
returns-clause-ok g c =
    let made = c.self.view_is in
    let pool = c.self.inside in
    let added = λ (ts : List Table). ts ++ c.in_ok-table.table ∷ [] in
    was_added c.args.network.now c.args.self.now c.push_reserved.new.self.items c.in_ok-table.table c.args.wanted.now c.args.steps.now c.fill.new.steps (length c.filled-made.result.now)
    c.requires.pool
    (subst (λ (ts : List Table). ¬ HasWanted ts c.args.wanted.now) made
    (none_wanted pool.made.items pool.signatures c.args.wanted.now (signed_by c.in_ok-signature.signature) c.self.invariant c.in_ok-signature.ensures c.in_default.ensures))
    (subst (λ (ts : List Table). IsFill c.args.network.now ts c.in_ok-table.table) c.filled-made.ensures c.in_ok-table.ensures.filled)
    c.in_ok-table.ensures.wanted
    (c.push_reserved.ensures.items ∙ ap added c.in_ok-reserve.ensures.items ∙ ap added made)
    c.in_ok-table.ensures.counted
    (ap length c.filled-made.ensures)
