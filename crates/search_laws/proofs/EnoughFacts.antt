-- How many nodes a search has, and which budgets are never spent.
use Rattle.std.proofs.Common.{◌≡◌, ◌≢◌, ℕ, zero, suc, ◌+◌, ◌*◌, ◌^◌, ◌<◌, ◌≤◌, Bool, cond, List, [], ◌∷◌, length, get_or, Option, Some, None, refl, sym, ap, ◌∙◌, subst, ⊎_elim, arith}
use Rattle.std.specs.Prelude.{◌==◌}
use Rattle.std.specs.List.{list_any}
use Rattle.std.proofs.Math.Nat.{pow-zero}
use Rattle.std.proofs.lemmas.Bool.{cases_lt, leb-false}
use Rattle.std.proofs.lemmas.List.{get_or-map, length-map}
use Rattle.service_model.specs.declared.limits.TheConstants.{INF}
use Rattle.service_model.specs.declared.cert_rules.TheConstants.{PLACE, VERDICT}
use Rattle.service_model.specs.declared.plan.Plan.{Plan}
use Rattle.service_model.specs.declared.cert.Split.{Split}
use Rattle.service_model.specs.declared.cert.Cert.{Cert}
use Rattle.service_model.specs.declared.cert.Item.TheVariants.{Head as HeadItem, End as EndItem}
use Rattle.service_model.specs.Net.{Net, arc_in}
use Rattle.service_model.specs.Plans.{cost_of}
use Rattle.service_model.specs.Search.{sum_below}
use Rattle.service_model.specs.Networks.{IsNetwork}
use Rattle.service_model.specs.Nodes.{bound_of}
use Rattle.service_model.specs.CertRanges.{Cut, no_cut, cut_at, node_range, IsLeaf}
use Rattle.service_model.specs.Repairs.{Raise, IsCandidate, Found}
use Rattle.service_model.specs.Verdicts.{Closes, EndsWith, IsLeastBound}
use Rattle.service_model.specs.Items.{items_of, items_from}
use Rattle.service_model.specs.Held.{Held, none_held, no_node, node_at, cut_by, cuts_of, roots_of, relaxed_of, range_of}
use Rattle.service_model.specs.CertRules.{EndsAsTold}
use Rattle.tree_order.specs.declared.forest.Forest.{Forest}
use Rattle.tree_order.specs.Forest.{IsForest}
use Rattle.arc_relax.specs.Laws.{HasPlan}
use Rattle.range_nodes.proofs.PlanFacts.{bound_is, feasible_found}
use Rattle.range_splits.proofs.OpenFacts.{own_candidate}
use Rattle.search_laws.specs.Own.{shown_by, AreRelaxed, AllHold}
use Rattle.search_laws.specs.Enough.{is_dropped_supplier, dropped_suppliers}
use Rattle.search_laws.specs.Laws.{NodesLaw, EnoughLaw, TreeEnoughLaw}
use Rattle.search_laws.proofs.ChoiceFacts.{choices, choices_one, choices_whole}
use Rattle.search_laws.proofs.OutFacts.{long_sum, one_each}
use Rattle.search_laws.proofs.HalvingFacts.{Each}
use Rattle.search_laws.proofs.LeavesFacts.{IsToldHalving, HasLeaves, has_leaves, some_choices}
use Rattle.search_laws.proofs.HoldFacts.{AllHold-parts}
use Rattle.search_laws.proofs.ShownFacts.{shown_after}
use Rattle.search_laws.proofs.SplitsFacts.{HaveHalved, have_halved}
use Rattle.search_laws.proofs.DroppedFacts.{split_dropped, single_times}

-- what the rules tell of a search
record IsSearch (n : Net) (c : Cert) : Type 0 where
  nodes : length c.nodes ≡ 2 * length c.splits + 1
  halved : HaveHalved n (shown_by c)
  told : EndsAsTold n (shown_by c) c.verdict

is_search : (n : Net) (c : Cert) → IsNetwork n → AllHold n none_held (items_of c) → IsSearch n c
is_search n c valid hold =
    let front = HeadItem c.head ∷ items_from c 0 0 c.nodes in
    let parts = AllHold-parts n none_held front (EndItem c.verdict ∷ []) hold in
    let halved = subst (HaveHalved n) (shown_after c) (have_halved n front valid parts.0) in
    let last = subst (λ (h : Held). AllHold n h (EndItem c.verdict ∷ [])) (shown_after c) parts.1 in
    let all = leb-false (length c.nodes) (2 * length c.splits) (last.0 PLACE (λ is. omega (arith, is))) in
    record {
      nodes = let few = halved.few in omega (arith, few, all);
      halved = halved;
      told = last.0 VERDICT (λ is. omega (arith, is));
    }

-- each cut halves an interval of a dropped supplier
told_halvings : (n : Net) (f : Forest) (c : Cert) → IsNetwork n → IsForest (length n.stages) n.arcs f → AreRelaxed n f c → IsSearch n c
    → Each (IsToldHalving (is_dropped_supplier n f) n) (cuts_of n (shown_by c))
told_halvings n f c valid forest relaxed search k within =
    let h = shown_by c in
    let halving = search.halved.cuts k within in
    let low : k < length c.splits = omega (arith, within, length-map c.splits (cut_by n c.nodes)) in
    let no_split : Split = record { node = 0; supplier = 0; customer = 0 } in
    let s = get_or c.splits k no_split in
    let named = search.halved.named k no_split low in
    let is : cut_at (cuts_of n h) k ≡ cut_by n c.nodes s = get_or-map (cut_by n c.nodes) c.splits k no_split no_cut low in
    let stage : (cut_at (cuts_of n h) k).stage ≡ s.supplier = ap (λ (x : Cut). x.stage) is in
    let dropped = split_dropped n f c.tables (range_of n h s.node) (node_at c.nodes s.node) s valid forest (relaxed s.node named.0) named.1 in
    (halving, ap (is_dropped_supplier n f) stage ∙ dropped)

leaves_of : (n : Net) (f : Forest) (c : Cert) → IsNetwork n → IsForest (length n.stages) n.arcs f → AreRelaxed n f c → IsSearch n c
    → HasLeaves (is_dropped_supplier n f) n (cuts_of n (shown_by c))
leaves_of n f c valid forest relaxed search =
    has_leaves (is_dropped_supplier n f) n (cuts_of n (shown_by c)) valid (told_halvings n f c valid forest relaxed search)

-- the choices of times that the dropped suppliers have
abbrev all_choices : Net → Forest → ℕ
all_choices n f = (n.horizon + 1) ^ dropped_suppliers n f

-- there are no more leaves than choices
few_splits : (n : Net) (f : Forest) (c : Cert) → IsNetwork n → IsForest (length n.stages) n.arcs f → AreRelaxed n f c → IsSearch n c
    → length c.splits + 1 ≤ all_choices n f
few_splits n f c valid forest relaxed search =
    let told = is_dropped_supplier n f in
    let cuts = cuts_of n (shown_by c) in
    let has = leaves_of n f c valid forest relaxed search in
    let long = has.long in
    let sum = has.sum in
    let few = long_sum (λ k. choices told n (node_range n cuts k)) has.leaves (some_choices told n cuts has) in
    omega (arith, few, long, sum, choices_whole told n valid, length-map c.splits (cut_by n c.nodes))

pub nodes_law : NodesLaw
nodes_law n f c valid forest hold relaxed =
    let search = is_search n c valid hold in
    let nodes = search.nodes in
    let few = few_splits n f c valid forest relaxed search in
    omega (arith, nodes, few)

-- ---- a search of as many nodes as are enough
-- where there are as many leaves as choices, each leaf leaves one
leaf_single : (n : Net) (f : Forest) (c : Cert) (k : ℕ) → IsNetwork n → IsForest (length n.stages) n.arcs f → AreRelaxed n f c → IsSearch n c
    → all_choices n f ≤ length c.splits + 1 → IsLeaf (cuts_of n (shown_by c)) k → choices (is_dropped_supplier n f) n (range_of n (shown_by c) k) ≡ 1
leaf_single n f c k valid forest relaxed search all leaf =
    let told = is_dropped_supplier n f in
    let cuts = cuts_of n (shown_by c) in
    let has = leaves_of n f c valid forest relaxed search in
    let long = has.long in
    let sum = has.sum in
    one_each (λ i. choices told n (node_range n cuts i)) has.leaves (some_choices told n cuts has)
    (omega (arith, all, long, sum, choices_whole told n valid, length-map c.splits (cut_by n c.nodes))) k (has.each_leaf k leaf)

-- so that its relaxed plan is a candidate
leaf_candidate : (n : Net) (f : Forest) (c : Cert) (k : ℕ) (p : Plan) → IsNetwork n → IsForest (length n.stages) n.arcs f → AreRelaxed n f c → IsSearch n c
    → all_choices n f ≤ length c.splits + 1 → IsLeaf (cuts_of n (shown_by c)) k → (bound : ℕ) → (node_at c.nodes k).relaxed ≡ Some p
    → HasPlan n (range_of n (shown_by c) k) f.parent bound (Some p) → IsCandidate n (relaxed_of (shown_by c)) k Raise p
leaf_candidate n f c k p valid forest relaxed search all leaf bound is has =
    let told = is_dropped_supplier n f in
    let cuts = cuts_of n (shown_by c) in
    let r = range_of n (shown_by c) k in
    let low : k < length c.nodes =
    let there = leaf.there in let nodes = search.nodes in omega (arith, there, nodes, length-map c.splits (cut_by n c.nodes)) in
    let part = (leaves_of n f c valid forest relaxed search).parts k leaf.there in
    let one = leaf_single n f c k valid forest relaxed search all leaf in
    let met = single_times n f r p valid forest has.0 (choices_one told n r part.intervals one) in
    let feasible = feasible_found n f c.tables r (node_at c.nodes k) p valid forest part.inside (relaxed k low) is met in
    own_candidate n (relaxed_of (shown_by c)) k p (get_or-map (λ x. x.relaxed) c.nodes k no_node None low ∙ is) feasible

found_closes : (n : Net) (relaxed : List (Option Plan)) (k least : ℕ) (p : Plan) (found : Option Plan) → Found n relaxed found
    → IsCandidate n relaxed k Raise p → cost_of n p ≤ least → Closes n found least
found_closes n relaxed k least p None is candidate few = absurd (is k Raise p candidate)
found_closes n relaxed k least p (Some q) is candidate few = let best = is.least k Raise p candidate in omega (arith, best, few)

leaf_closes : (n : Net) (f : Forest) (c : Cert) (k least : ℕ) (found plan : Option Plan) → IsNetwork n → IsForest (length n.stages) n.arcs f → AreRelaxed n f c
    → IsSearch n c → all_choices n f ≤ length c.splits + 1 → IsLeaf (cuts_of n (shown_by c)) k → Found n (relaxed_of (shown_by c)) found → least ≢ INF
    → (node_at c.nodes k).relaxed ≡ plan → HasPlan n (range_of n (shown_by c) k) f.parent least plan → Closes n found least
leaf_closes n f c k least found None valid forest relaxed search all leaf is finite same has = absurd (finite has)
leaf_closes n f c k least found (Some p) valid forest relaxed search all leaf is finite same has =
    found_closes n (relaxed_of (shown_by c)) k least p found is
    (leaf_candidate n f c k p valid forest relaxed search all leaf least same has) (let cost = has.1 in omega (arith, cost))

-- a search with as many leaves as choices closes where its least bound is below INF
closes : (n : Net) (f : Forest) (c : Cert) (least : ℕ) (found : Option Plan) → IsNetwork n → IsForest (length n.stages) n.arcs f → AreRelaxed n f c
    → IsSearch n c → all_choices n f ≤ length c.splits + 1 → Found n (relaxed_of (shown_by c)) found
    → IsLeastBound c.tables (roots_of (shown_by c)) (cuts_of n (shown_by c)) least → least ≢ INF → Closes n found least
closes n f c least found valid forest relaxed search all is lowest finite =
    let h = shown_by c in
    let k = lowest.node in
    let low : k < length c.nodes =
    let there = lowest.leaf.there in let nodes = search.nodes in omega (arith, there, nodes, length-map c.splits (cut_by n c.nodes)) in
    let bound : bound_of c.tables (node_at c.nodes k).roots ≡ least = sym (bound_is h k) ∙ lowest.reached in
    leaf_closes n f c k least found (node_at c.nodes k).relaxed valid forest relaxed search all lowest.leaf is finite refl
    (subst (λ b. HasPlan n (range_of n h k) f.parent b (node_at c.nodes k).relaxed) bound (relaxed k low).plan)

pub enough_law : EnoughLaw
enough_law n f c valid forest hold relaxed spent =
    let h = shown_by c in
    let search = is_search n c valid hold in
    let nodes = search.nodes in
    let (found, ending) = search.told in
    let ends = subst (λ o. EndsWith o n found ending.least (length (roots_of h)) c.head.budget c.verdict.bound) spent ending.ends in
    let roots = length-map c.nodes (λ x. x.roots) in
    let late = ends.2 in
    let few = few_splits n f c valid forest relaxed search in
    ⊎_elim
    (λ less. omega (arith, less, nodes, late, roots))
    (λ all. absurd (ends.0 (closes n f c ending.least found valid forest relaxed search all ending.is_found ending.is_least ends.1)))
    (cases_lt (length c.splits + 1) (all_choices n f))

-- ---- no dropped arc
abbrev one_if : Bool → ℕ
one_if b = cond b 1 0

none_told : (n : Net) (f : Forest) (count : ℕ) → f.dropped ≡ [] → sum_below (λ j. one_if (is_dropped_supplier n f j)) count ≡ 0
none_told n f zero none = refl
none_told n f (suc count) none =
    let first : one_if (is_dropped_supplier n f count) ≡ 0 =
    ap (λ (dropped : List ℕ). one_if (list_any (λ a. (arc_in n.arcs a).supplier == count) dropped)) none in
    let rest = none_told n f count none in
    omega (arith, first, rest)

pub tree_enough_law : TreeEnoughLaw
tree_enough_law n f none =
    let one : (n.horizon + 1) ^ dropped_suppliers n f ≡ 1 =
    ap (λ k. (n.horizon + 1) ^ k) (none_told n f (length n.stages) none) ∙ pow-zero (n.horizon + 1) in
    omega (arith, one)
