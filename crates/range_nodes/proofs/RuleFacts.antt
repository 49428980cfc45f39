-- A node of the search keeps the rules on nodes.
use Rattle.std.proofs.Common.{◌≡◌, ◌<◌, length, subst, arith}
use Rattle.std.specs.Prelude.{All, IfSome, ◌==◌, slice_index}
use Rattle.service_model.specs.declared.cert_rules.TheConstants.{BUDGET, ROOT, FITS, STAGE_TWICE, RELAXED}
use Rattle.service_model.specs.declared.range.Range.{Range}
use Rattle.service_model.specs.declared.table.Kind.TheVariants.{Root}
use Rattle.service_model.specs.Plans.{HasTimes}
use Rattle.service_model.specs.Tables.{table_at}
use Rattle.service_model.specs.Nodes.{below_roots, bound_of, Fits}
use Rattle.cert_laws.proofs.TablesKeptFacts.{either}
use Rattle.range_nodes.specs.Laws.{NodeRulesLaw}
use Rattle.range_nodes.proofs.NodeFacts.{each_below, fits_range, has_times, plan_in_range}

pub node_rules : NodeRulesLaw
node_rules n f h r x valid forest intervals searched same node room =
    let bound = bound_of h.tables x.roots in
    let roots : All (λ k. (k < length h.tables) × ((table_at h.tables k).kind ≡ Root)) x.roots =
    λ k d within. (node.there k d within, node.whole.kinds k d within) in
    let fits = each_below n f h.tables r x (λ k. Fits n r (table_at h.tables k)) forest node
    (λ j low. fits_range n r f.parent f.children node.numbers j (table_at h.tables (slice_index node.numbers j)) (node.stages j low).own) in
    let fits_held = subst (λ (s : Range). All (λ k. Fits n s (table_at h.tables k)) (below_roots h.tables x.roots)) same fits in
    let times : IfSome x.relaxed (HasTimes n) = has_times n r f.parent bound x.relaxed node.plan in
    let few = searched.numbered in (
      λ rule.
          either (rule == BUDGET) _ _ room (
          either (rule == ROOT) _ _ roots (
          either (rule == FITS) _ _ fits_held (
          either (rule == STAGE_TWICE) _ _ node.whole.once (
          either (rule == RELAXED) _ _ times tt)))),
      record {
        roots = λ k d within. (let there = node.there k d within in omega (arith, there, few));
        relaxed = plan_in_range n r f.parent bound x.relaxed valid intervals node.plan;
      },
    )
