-- The children of a stage are stages, each with a number.
use Rattle.std.proofs.Common.{◌<◌, ◌∙◌, ℕ, List, [], length, get_or, sym, subst}
use Rattle.std.specs.Prelude.{All}
use Rattle.arc_relax.proofs.node.wanted_of.Goals as goal

pub children_of-requires : goal.children_of-requires
children_of-requires c =
    let none : List ℕ = [] in
    let f = c.args.node.now.forest.now in
    subst (λ (cs : List ℕ). All (λ i. i < length c.args.numbers.now) cs) (c.get-5.ensures.whatever_else none ∙ sym c.as_slice.ensures)
    (subst (λ m. All (λ i. i < m) (get_or f.children c.args.stage none)) (sym c.requires.numbers) (c.requires.node.forest.children.each c.args.stage c.requires.stage).low)
