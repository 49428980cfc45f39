-- Each root of a whole node has one value, which is not above INF.
use Rattle.std.proofs.Common.{◌<◌, ◌≤◌, length, get_or, sym, subst}
use Rattle.std.specs.Prelude.{All}
use Rattle.service_model.specs.declared.limits.TheConstants.{INF}
use Rattle.service_model.specs.Tables.{table_at}
use Rattle.arc_relax.proofs.RootFacts.{roots_there, roots_some, roots_capped}
use Rattle.arc_relax.proofs.relaxed.relaxed_at.Goals as goal

pub bound_at-bound-requires-clause-there : goal.bound_at-bound-requires-clause-there
bound_at-bound-requires-clause-there c =
    subst (All (λ k. k < length c.args.made.now)) (sym c.as_slice.ensures)
    (roots_there c.args.network.now c.args.made.now c.args.roots c.requires.tight)

pub bound_at-bound-requires-clause-some : goal.bound_at-bound-requires-clause-some
bound_at-bound-requires-clause-some c =
    subst (All (λ k. 0 < length (table_at c.args.made.now k).values)) (sym c.as_slice.ensures)
    (roots_some c.args.network.now c.args.made.now c.args.roots c.requires.tight c.requires.whole)

pub bound_at-bound-requires-clause-small : goal.bound_at-bound-requires-clause-small
bound_at-bound-requires-clause-small c =
    subst (All (λ k. get_or (table_at c.args.made.now k).values 0 0 ≤ INF)) (sym c.as_slice.ensures)
    (roots_capped c.args.network.now c.args.made.now c.args.roots c.requires.tight c.requires.whole)
