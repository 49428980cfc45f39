-- The relaxed plan of a node, and its roots.
use Rattle.std.proofs.Common.{◌≡◌, ℕ, zero, suc, ◌<◌, ◌≤◌, List, length, get_or, Option, Some, None, refl, sym, ap, ◌∙◌, subst, arith}
use Rattle.std.proofs.Math.ListN.{get_or-map}
use Rattle.std.proofs.lemmas.List.Elements.{All-from_recursion}
use Rattle.service_model.specs.declared.limits.TheConstants.{INF}
use Rattle.service_model.specs.declared.plan.Plan.{Plan}
use Rattle.service_model.specs.declared.range.Range.{Range}
use Rattle.service_model.specs.declared.table.Table.{Table}
use Rattle.service_model.specs.declared.cert.Node.{Node}
use Rattle.service_model.specs.Net.{Net, stage_at}
use Rattle.service_model.specs.Networks.{IsNetwork}
use Rattle.service_model.specs.Tables.{table_at}
use Rattle.service_model.specs.Nodes.{MeetsChild, bound_of}
use Rattle.service_model.specs.Relaxed.{IsRelaxedPlan}
use Rattle.service_model.specs.Held.{Held, no_node, node_at, range_of, bound_at}
use Rattle.service_model.specs.Earned.{MeetsChildren, IsRelaxedAt}
use Rattle.gsm_laws.specs.Traces.{TracedWithin}
use Rattle.gsm_laws.proofs.ElementFacts.{each}
use Rattle.tree_order.specs.declared.forest.Forest.{Forest}
use Rattle.tree_order.specs.Forest.{IsForest}
use Rattle.tree_order.proofs.ForestLaws.{all_kept}
use Rattle.arc_relax.specs.StageTables.{HaveTables}
use Rattle.arc_relax.specs.Laws.{HasPlan}
use Rattle.arc_relax.proofs.TraceFacts.{fits_traced}
use Rattle.arc_relax.proofs.RangeLaws.{latest_ge, tree_law}
use Rattle.range_nodes.specs.Roots.{AreRootsOf}
use Rattle.range_nodes.specs.Nodes.{IsRangeNode}
use Rattle.range_nodes.specs.Laws.{RelaxedAtLaw, FeasibleFoundLaw, ShortNodeLaw, RootsLaw, TreeSolvesLaw}
use Rattle.range_nodes.proofs.NodeFacts.{each_below, has_times}
use Rattle.range_nodes.proofs.SizeFacts.{roots_few}
use Rattle.range_nodes.proofs.RiseFacts.{roots_are, roots_rise}

-- the bound of a node is that of its roots
pub bound_is : (h : Held) (k : ℕ) → bound_at h k ≡ bound_of h.tables (node_at h.nodes k).roots
bound_is h k = ap (bound_of h.tables) (get_or-map (λ (x : Node). x.roots) h.nodes k no_node)

-- a relaxed plan meets the arcs between a stage's table and its children
meets_children : (n : Net) (r : Range) (f : Forest) (tables : List Table) (numbers : List ℕ) (p : Plan) (j : ℕ) → IsNetwork n
    → IsForest (length n.stages) n.arcs f → HaveTables n r f tables numbers → IsRelaxedPlan n r f.parent p → j < length n.stages
    → MeetsChildren n tables p (get_or numbers j 0)
meets_children n r f tables numbers p j valid forest has relaxed low =
    let t = table_at tables (get_or numbers j 0) in
    let met = λ (c : ℕ). MeetsChild (table_at tables c).kind n.arcs p (table_at tables c).stage t.stage in
    All-from_recursion met t.children
    (each (λ c. met c × TracedWithin zero n tables p c) met (λ c both. both.0) t.children
    (fits_traced n r f tables numbers p valid forest has relaxed (suc zero) j low).1)

relaxed_with : (n : Net) (f : Forest) (h : Held) (k : ℕ) (plan : Option Plan) → IsNetwork n → IsForest (length n.stages) n.arcs f
    → IsRangeNode n f h.tables (range_of n h k) (node_at h.nodes k) → bound_at h k < INF → (node_at h.nodes k).relaxed ≡ plan
    → HasPlan n (range_of n h k) f.parent (bound_of h.tables (node_at h.nodes k).roots) plan → IsRelaxedAt n h k
relaxed_with n f h k None valid forest node small is has = absurd (let same = bound_is h k in omega (arith, same, has, small))
relaxed_with n f h k (Some p) valid forest node small is has = record {
  plan = p;
  there = is;
  stages = has.0.stages;
  arcs = each_below n f h.tables (range_of n h k) (node_at h.nodes k) (MeetsChildren n h.tables p) forest node
      (λ j low. meets_children n (range_of n h k) f h.tables node.numbers p j valid forest node.stages has.0 low);
  cost = has.1 ∙ sym (bound_is h k);
}

pub relaxed_at : RelaxedAtLaw
relaxed_at n f h k valid forest searched node small = relaxed_with n f h k (node_at h.nodes k).relaxed valid forest node small refl node.plan

pub feasible_found : FeasibleFoundLaw
feasible_found n f tables r x p valid forest inside node is met =
    let relaxed = (subst (HasPlan n r f.parent (bound_of tables x.roots)) is node.plan).0 in
    record {
      times = relaxed.times;
      stages = λ j low.
          let at = relaxed.stages j low in
          let late = latest_ge n.arcs r.least j (stage_at n j).supply in
          let floor = at.not_below in
          let above = at.not_above in
          let ends = inside j low in
          record {
            supplied = omega (arith, late, floor, above);
            within = above;
            not_early = omega (arith, ends.0, at.not_early);
            not_late = omega (arith, ends.1, at.not_late);
            allowed = at.allowed;
          };
      arcs = met;
    }

pub short_node : ShortNodeLaw
short_node n f tables r x forest node = record {
  roots = subst (λ (roots : List ℕ). length roots ≤ length n.stages) (sym node.roots) (roots_few n f node.numbers forest);
  relaxed = has_times n r f.parent (bound_of tables x.roots) x.relaxed node.plan;
}

pub roots_rule : RootsLaw
roots_rule n f tables r x forest node =
    let are = subst (AreRootsOf f tables) (sym node.roots) (roots_are n r f tables node.numbers forest node.stages) in
    (are, roots_rise n f tables x.roots forest are)

pub tree_solves : TreeSolvesLaw
tree_solves n f tables r x valid forest none whole node =
    tree_law n r f.parent (bound_of tables x.roots) x.relaxed valid (all_kept (length n.stages) n.arcs f forest none) whole node.least node.plan
