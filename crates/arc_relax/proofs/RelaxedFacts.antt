-- What relaxing a range gives, from the tables of all stages and what is read from the roots'.
use Rattle.std.proofs.Common.{◌≡◌, ℕ, ◌==◌, Option, Some, None, List, length, get_or, map, sym, ap, ◌∙◌, subst, arith}
use Rattle.std.specs.Prelude.{MatchOption, filter}
use Rattle.std.proofs.lemmas.List.{get_or_default}
use Rattle.service_model.specs.declared.limits.TheConstants.{INF}
use Rattle.service_model.specs.declared.plan.Plan.{Plan}
use Rattle.service_model.specs.declared.range.Range.{Range}
use Rattle.service_model.specs.declared.table.Table.{Table}
use Rattle.service_model.specs.Net.{Net}
use Rattle.service_model.specs.Networks.{IsNetwork}
use Rattle.service_model.specs.Nodes.{bound_of}
use Rattle.service_model.specs.Relaxed.{IsRelaxedLeast}
use Rattle.tree_order.specs.declared.forest.Forest.{Forest}
use Rattle.tree_order.specs.Forest.{IsForest, roots_of}
use Rattle.tree_order.proofs.ForestLaws.{order_each}
use Rattle.gsm_laws.specs.Traces.{IsTracedNode, IsWhole}
use Rattle.arc_relax.specs.declared.relaxed.Relaxed.{Relaxed}
use Rattle.arc_relax.specs.StageTables.{HasTable, HaveTables, root_numbers, AreMade}
use Rattle.arc_relax.specs.Laws.{HasPlan}
use Rattle.arc_relax.specs.Relaxations.{IsTracedPlan, IsRead, IsRelaxed}
use Rattle.arc_relax.proofs.MadeFacts.{order_long}
use Rattle.arc_relax.proofs.WholeFacts.{whole_node}
use Rattle.arc_relax.proofs.TraceFacts.{traced_relaxed}
use Rattle.arc_relax.proofs.BoundFacts.{bound_least}

-- each stage has its place in the order, and so its table
pub all_made : (n : Net) (r : Range) (f : Forest) (old new : List Table) (count count' : ℕ) (numbers : List ℕ) → IsForest (length n.stages) n.arcs f
    → AreMade n r f old new count count' numbers (length n.stages) → HaveTables n r f new numbers
all_made n r f old new count count' numbers forest made j low =
    let at = (order_each (length n.stages) n.arcs f forest).each j low in
    subst (HasTable n r f new numbers) (get_or_default f.order at.0 0 j at.1 ∙ at.2) (made.made at.0 (omega (arith, at.1, order_long n f forest)))

-- the numbers of the roots, told of equal lists
pub roots_are : (f : Forest) (numbers order parent given roots : List ℕ) → order ≡ f.order → parent ≡ f.parent → given ≡ numbers
    → roots ≡ map (λ j. get_or given j 0) (filter (λ j. get_or parent j 0 == j) order) → roots ≡ root_numbers f numbers
roots_are f numbers order parent given roots same_order same_parent same_numbers is =
    is
    ∙ ap (λ (js : List ℕ). map (λ j. get_or given j 0) (filter (λ j. get_or parent j 0 == j) js)) same_order
    ∙ ap (λ (ps : List ℕ). map (λ j. get_or given j 0) (filter (λ j. get_or ps j 0 == j) f.order)) same_parent
    ∙ ap (λ (ks : List ℕ). map (λ j. get_or ks j 0) (roots_of f)) same_numbers

-- a plan that is traced from the roots meets the kept arcs
plan_of : (n : Net) (r : Range) (f : Forest) (tables : List Table) (numbers roots : List ℕ) (bound : ℕ) → IsNetwork n → IsForest (length n.stages) n.arcs f
    → HaveTables n r f tables numbers → roots ≡ root_numbers f numbers → (plan : Option Plan) → MatchOption plan (bound ≡ INF) (IsTracedPlan n tables roots bound)
    → HasPlan n r f.parent bound plan
plan_of n r f tables numbers roots bound valid forest has are None none = none
plan_of n r f tables numbers roots bound valid forest has are (Some p) found = (
  traced_relaxed n r f tables numbers p valid forest has found.times (subst (IsTracedNode n tables p) are found.traced) (omega (arith, found.cost, found.small)),
  found.cost,
  found.small,
)

pub relaxed_from : (n : Net) (r : Range) (f : Forest) (old new : List Table) (count count' : ℕ) (numbers roots : List ℕ) → IsNetwork n → IsForest (length n.stages) n.arcs f
    → AreMade n r f old new count count' numbers (length n.stages) → roots ≡ root_numbers f numbers → (x : Relaxed) → IsRead n new roots x → IsRelaxed n f r old new count count' x
relaxed_from n r f old new count count' numbers roots valid forest made are x read =
    let has = all_made n r f old new count count' numbers forest made in
    let all = read.roots_are ∙ are in
    let least : IsRelaxedLeast n r f.parent (bound_of new (root_numbers f numbers)) = bound_least n r f new numbers valid forest has in
    let bound : x.bound ≡ bound_of new (root_numbers f numbers) = read.bound ∙ ap (bound_of new) are in
    record {
      least = subst (IsRelaxedLeast n r f.parent) (sym bound) least;
      plan = plan_of n r f new numbers roots x.bound valid forest has are x.plan read.plan;
      numbers = numbers;
      tables = has;
      roots = all;
      whole = subst (IsWhole n new) (sym all) (whole_node n r f new numbers forest has);
      bound = bound ∙ ap (bound_of new) (sym all);
      pool = made.pool;
      longer = made.longer;
      fresh = λ i late early.
          let was = made.fresh i late early in (
            get_or f.order was.0 0,
            (order_each (length n.stages) n.arcs f forest).low was.0 0 (omega (arith, was.1, order_long n f forest)),
            was.2,
          );
      turns = made.turns;
      steps = made.steps;
    }
