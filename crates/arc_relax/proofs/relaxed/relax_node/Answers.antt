-- The tables of all stages are made; what is read from the roots' is what the node has.
use Rattle.std.proofs.Common.{◌<◌, ℕ, List, length, ap, sym, subst, arith}
use Rattle.std.specs.Prelude.{All}
use Rattle.std.specs.List.{AllByRecursion}
use Rattle.std.proofs.lemmas.Result.{IfOk-weaker}
use Rattle.service_model.specs.declared.table.Table.{Table}
use Rattle.service_model.specs.Nodes.{AreTightBelow}
use Rattle.tree_order.proofs.ForestLaws.{order_each}
use Rattle.gsm_laws.specs.Traces.{IsWhole}
use Rattle.arc_relax.specs.Relaxations.{IsRead, IsRelaxed}
use Rattle.arc_relax.proofs.WholeFacts.{whole_node, tight_roots}
use Rattle.arc_relax.proofs.RelaxedFacts.{all_made, roots_are, relaxed_from}
use Rattle.arc_relax.proofs.relaxed.relax_node.Goals as goal

pub roots_of-requires-clause-parent : goal.roots_of-requires-clause-parent
roots_of-requires-clause-parent g c =
    let x = c.args.node.now in
    let each = order_each (length x.network.now.stages) x.network.now.arcs x.forest.now c.requires.node.forest in
    subst (λ (js : List ℕ). All (λ j. j < length c.as_slice-2.result.now) js) (sym c.as_slice.ensures)
    (λ k d within. omega (arith, each.low k d within, ap length c.as_slice-2.ensures, c.requires.node.forest.walk.long))

pub roots_of-requires-clause-numbers : goal.roots_of-requires-clause-numbers
roots_of-requires-clause-numbers g c =
    let x = c.args.node.now in
    let each = order_each (length x.network.now.stages) x.network.now.arcs x.forest.now c.requires.node.forest in
    subst (λ (js : List ℕ). All (λ j. j < length c.deref.result.now) js) (sym c.as_slice.ensures)
    (λ k d within. omega (arith, each.low k d within, ap length c.deref.ensures.value, c.in_ok-numbers.ensures.ok.long))

pub relaxed_at-requires-clause-tight : goal.relaxed_at-requires-clause-tight
relaxed_at-requires-clause-tight g c =
    let x = c.args.node.now in
    let n = x.network.now in
    let f = x.forest.now in
    let numbers = c.in_ok-numbers.numbers.items in
    let new = c.numbers_of.new.pool in
    let made = c.in_ok-numbers.ensures.ok in
    let has = all_made n x.range.now f c.args.pool.now new c.args.steps.now c.numbers_of.new.steps numbers c.requires.node.forest made in
    let are = roots_are f numbers c.as_slice.result.now c.as_slice-2.result.now c.deref.result.now c.in_ok-roots.roots c.as_slice.ensures c.as_slice-2.ensures c.deref.ensures.value c.in_ok-roots.ensures in
    subst (λ (ts : List Table). AllByRecursion (AreTightBelow n ts) c.in_ok-roots.roots) (sym c.filled.ensures)
    (subst (AllByRecursion (AreTightBelow n new)) (sym are) (tight_roots n x.range.now f new numbers c.requires.node.forest has))

pub relaxed_at-requires-clause-whole : goal.relaxed_at-requires-clause-whole
relaxed_at-requires-clause-whole g c =
    let x = c.args.node.now in
    let n = x.network.now in
    let f = x.forest.now in
    let numbers = c.in_ok-numbers.numbers.items in
    let new = c.numbers_of.new.pool in
    let made = c.in_ok-numbers.ensures.ok in
    let has = all_made n x.range.now f c.args.pool.now new c.args.steps.now c.numbers_of.new.steps numbers c.requires.node.forest made in
    let are = roots_are f numbers c.as_slice.result.now c.as_slice-2.result.now c.deref.result.now c.in_ok-roots.roots c.as_slice.ensures c.as_slice-2.ensures c.deref.ensures.value c.in_ok-roots.ensures in
    subst (λ (ts : List Table). IsWhole n ts c.in_ok-roots.roots) (sym c.filled.ensures)
    (subst (IsWhole n new) (sym are) (whole_node n x.range.now f new numbers c.requires.node.forest has))

pub returns-clause-ok : goal.returns-clause-ok
returns-clause-ok g c =
    let x = c.args.node.now in
    let n = x.network.now in
    let f = x.forest.now in
    let numbers = c.in_ok-numbers.numbers.items in
    let new = c.numbers_of.new.pool in
    let made = c.in_ok-numbers.ensures.ok in
    let roots = c.in_ok-roots.roots in
    let are = roots_are f numbers c.as_slice.result.now c.as_slice-2.result.now c.deref.result.now roots c.as_slice.ensures c.as_slice-2.ensures c.deref.ensures.value c.in_ok-roots.ensures in
    IfOk-weaker c.relaxed_at.result (IsRead n c.filled.result.now roots) (IsRelaxed n f x.range.now c.args.pool.now new c.args.steps.now c.numbers_of.new.steps)
    (λ relaxed read.
    relaxed_from n x.range.now f c.args.pool.now new c.args.steps.now c.numbers_of.new.steps numbers roots c.requires.node.network c.requires.node.forest made are relaxed
    (subst (λ (ts : List Table). IsRead n ts roots relaxed) c.filled.ensures read))
    c.relaxed_at.ensures
