-- The leaf that is split, and the search behind it.
use Rattle.std.proofs.Common.{◌≡◌, ℕ, ◌+◌, ◌*◌, ◌≤◌, List, [], ◌∷◌, ◌++◌, length, refl, sym, ap, ◌∙◌, subst, arith}
use Rattle.std.specs.Prelude.{Option, Some, None, IfSome, All}
use Rattle.service_model.specs.declared.plan.Plan.{Plan}
use Rattle.service_model.specs.declared.range.Range.{Range}
use Rattle.service_model.specs.declared.table.Table.{Table}
use Rattle.service_model.specs.declared.cert.Node.{Node}
use Rattle.service_model.specs.declared.cert.Split.{Split}
use Rattle.service_model.specs.declared.cert_rules.TheConstants.{MAX_BUDGET}
use Rattle.service_model.specs.Net.{Net}
use Rattle.service_model.specs.Plans.{HasTimes, Meets, Feasible}
use Rattle.service_model.specs.Networks.{IsNetwork}
use Rattle.service_model.specs.Nodes.{bound_of}
use Rattle.service_model.specs.Ranges.{HasIntervals, HoldsTime}
use Rattle.service_model.specs.CertRanges.{range_at}
use Rattle.service_model.specs.Repairs.{IsRepairable, Found}
use Rattle.service_model.specs.Held.{node_at, relaxed_of}
use Rattle.tree_order.specs.declared.forest.Forest.{Forest}
use Rattle.tree_order.specs.Forest.{IsForest}
use Rattle.arc_relax.specs.Laws.{HasPlan}
use Rattle.cert_laws.proofs.TruthFacts.{found_feasible}
use Rattle.open_leaves.specs.declared.leaf.Leaf.{Leaf}
use Rattle.range_splits.specs.Open.{IsLeastOf}
use Rattle.range_splits.proofs.OpenFacts.{open_law}
use Rattle.range_nodes.specs.Nodes.{IsRangeNode, IsMade}
use Rattle.range_nodes.proofs.PlanFacts.{feasible_found}
use Rattle.range_branch.specs.declared.progress.Progress.{Progress}
use Rattle.range_branch.specs.declared.halves.Cutting.{Cutting}
use Rattle.range_branch.specs.declared.halves.Halves.{Halves}
use Rattle.range_branch.specs.Progress.{came, IsInside, IsProgress, IsSplit}
use Rattle.range_branch.specs.Steps.{IsCutting, CutBy, AreHalves}
use Rattle.range_branch.proofs.RepairableFacts.{repairable}
use Rattle.range_branch.proofs.InsideFacts.{ended_inside, started_inside}
use Rattle.range_branch.proofs.SplittingFacts.{IsNextLeafOf, IsSplitAt}
use Rattle.range_branch.proofs.TwoMoreFacts.{long_two}
use Rattle.range_branch.proofs.TurnFacts.{made_new}
use Rattle.range_branch.proofs.StepFacts.{AreSplitHalves, split_of, goes_on_with}

times_by : (n : Net) (r : Range) (parent : List ℕ) (bound : ℕ) (plan : Option Plan) → HasPlan n r parent bound plan → IfSome plan (HasTimes n)
times_by n r parent bound None has = tt
times_by n r parent bound (Some p) has = has.0.times

-- the relaxed plan of a node has two times for each stage
pub relaxed_times : (n : Net) (f : Forest) (tables : List Table) (r : Range) (x : Node) → IsRangeNode n f tables r x → IfSome x.relaxed (HasTimes n)
relaxed_times n f tables r x node = times_by n r f.parent (bound_of tables x.roots) x.relaxed node.plan

found_by : (n : Net) (relaxed : List (Option Plan)) (found : Option Plan) → Found n relaxed found → IfSome found (Feasible n)
found_by n relaxed None is = tt
found_by n relaxed (Some p) is = found_feasible n relaxed (Some p) p is refl

-- the plan found is feasible
pub found_is_feasible : (n : Net) (f : Forest) (budget : ℕ) (tables : List Table) (p : Progress) → IsProgress n f budget tables p → IfSome p.found (Feasible n)
found_is_feasible n f budget tables p is = found_by n (relaxed_of (came n budget tables p)) p.found is.found

-- the next leaf's relaxed plan breaks an arc
pub not_met : (n : Net) (f : Forest) (budget : ℕ) (tables : List Table) (p : Progress) (leaf : Leaf) → IsNetwork n → IsForest (length n.stages) n.arcs f
    → IsProgress n f budget tables p → IsNextLeafOf n budget tables p leaf → CutBy n leaf.node (node_at p.nodes leaf.node).relaxed None → ⊥
not_met n f budget tables p leaf valid forest is next cut =
    let q = next.relaxed.plan in
    let there = next.relaxed.there in
    let met : All (Meets q) n.arcs = subst (λ (o : Option Plan). CutBy n leaf.node o None) there cut in
    let node = is.nodes leaf.node next.within in
    let feasible = feasible_found n f tables (range_at p.ranges leaf.node) (node_at p.nodes leaf.node) q valid forest node.range.inside node.node there met in
    open_law n (came n budget tables p) leaf.node p.found q is.found next.opened next.within there next.relaxed.cost feasible

-- how the next leaf is split
pub cutting_is : (n : Net) (budget : ℕ) (tables : List Table) (p : Progress) (leaf : Leaf) (c : Cutting)
    → (next : IsNextLeafOf n budget tables p leaf) → CutBy n leaf.node (node_at p.nodes leaf.node).relaxed (Some c) → IsCutting n leaf.node next.relaxed.plan c
cutting_is n budget tables p leaf c next cut = subst (λ (o : Option Plan). CutBy n leaf.node o (Some c)) next.relaxed.there cut

next_is : (n : Net) (p next : Progress) (leaf : Leaf) (s : Split) (h : Halves) → IsSplit n p next leaf s h
    → next ≡ split_of p s h.left h.right h.left_made.node h.right_made.node next.leaves next.found
next_is n p next leaf s h is =
    ap (λ (xs : List Node). record next { nodes = xs }) is.nodes
    ∙ ap (λ (xs : List Split). record { nodes = (p.nodes ++ h.left_made.node ∷ []) ++ h.right_made.node ∷ []; splits = xs; ranges = next.ranges; leaves = next.leaves; found = next.found }) is.splits
    ∙ ap (λ (xs : List Range). record { nodes = (p.nodes ++ h.left_made.node ∷ []) ++ h.right_made.node ∷ []; splits = p.splits ++ s ∷ []; ranges = xs; leaves = next.leaves; found = next.found }) is.ranges

pub rows_more : (k s : ℕ) → (k + 2) * s ≡ k * s + 2 * s
rows_more k s = grind arith

-- the halves' relaxed plans can be repaired
pub halves_repairable : (n : Net) (f : Forest) (r : Range) (c : Cutting) (old new : List Table) (count count' : ℕ) (h : Halves) → IsInside n r
    → HoldsTime r c.split.supplier c.last → AreHalves n f r c old new count count' h
    → IfSome h.left_made.node.relaxed (IsRepairable n) × IfSome h.right_made.node.relaxed (IsRepairable n)
halves_repairable n f r c old new count count' h inside holds halves =
    let left = subst (IsInside n) (sym halves.left_is)
    (ended_inside n r c.split.supplier c.last inside holds (subst (HasIntervals n) halves.left_is halves.left_intervals)) in
    let right = subst (IsInside n) (sym halves.right_is)
    (started_inside n r c.split.supplier c.last inside holds (subst (HasIntervals n) halves.right_is halves.right_intervals)) in
    (repairable n f halves.between h.left h.left_made.node left halves.left.node, repairable n f new h.right h.right_made.node right halves.right.node)

-- the search behind the split
pub stepped : (n : Net) (f : Forest) (budget : ℕ) (old new : List Table) (count count' : ℕ) (p next : Progress) (leaf : Leaf) (q : Plan) (c : Cutting) (h : Halves)
    → IsNetwork n → budget ≤ MAX_BUDGET → IsForest (length n.stages) n.arcs f → IsProgress n f budget old p → IsNextLeafOf n budget old p leaf
    → IsSplitAt n budget old p leaf c → IsLeastOf p.leaves leaf → (node_at p.nodes leaf.node).relaxed ≡ Some q → IsCutting n leaf.node q c
    → AreHalves n f (range_at p.ranges leaf.node) c old new count count' h → IsSplit n p next leaf c.split h
    → IsProgress n f budget new next × (length next.nodes ≡ length p.nodes + 2)
stepped n f budget old new count count' p next leaf q c h valid most forest is leaf_next at least there cutting halves split =
    let (front, first_more) = halves.left.longer in
    let (back, second_more) = halves.right.longer in
    let all : new ≡ (old ++ front) ++ back = second_more ∙ ap (λ (ts : List Table). ts ++ back) first_more in
    let one = subst (λ (ts : List Table). IsMade n f h.left old ts count halves.steps h.left_made) first_more halves.left in
    let two = subst (λ (ts : List Table). IsMade n f h.right (old ++ front) ts halves.steps count' h.right_made) all
    (subst (λ (ts : List Table). IsMade n f h.right ts new halves.steps count' h.right_made) first_more halves.right) in
    let inside = (is.nodes leaf.node leaf_next.within).range in
    let r = range_at p.ranges leaf.node in
    let left_inside = subst (IsInside n) (sym halves.left_is)
    (ended_inside n r c.split.supplier c.last inside at.holds (subst (HasIntervals n) halves.left_is halves.left_intervals)) in
    let right_inside = subst (IsInside n) (sym halves.right_is)
    (started_inside n r c.split.supplier c.last inside at.holds (subst (HasIntervals n) halves.right_is halves.right_intervals)) in
    let both : AreSplitHalves n f budget old front back p leaf c h.left h.right h.left_made h.right_made = record {
      valid = valid;
      most = most;
      forest = forest;
      is = is;
      next = leaf_next;
      at = at;
      node_is = cutting.node_is;
      left_is = halves.left_is;
      right_is = halves.right_is;
      left_inside = left_inside;
      right_inside = right_inside;
      left_node = one.node;
      right_node = two.node;
      left_searched = one.tables;
      right_searched = two.tables;
      left_seen = one.seen;
      right_seen = two.seen;
      left_bound = one.bound;
      right_bound = two.bound;
      left_new = made_new n f h.left old (old ++ front) count halves.steps h.left_made forest one;
      right_new = made_new n f h.right (old ++ front) ((old ++ front) ++ back) halves.steps count' h.right_made forest two;
    } in
    let x = h.left_made.node in
    let y = h.right_made.node in
    let long = long_two p.nodes x y in
    let few = is.few in
    let first_few = one.few in
    let second_few = two.few in
    let rows = ap (λ k. k * length n.stages) long ∙ rows_more (length p.nodes) (length n.stages) in
    let on = goes_on_with n f budget old front back p leaf q c h.left h.right h.left_made h.right_made next.leaves split.between next.found both least there cutting
    split.leaves split.left split.right (omega (arith, rows, few, first_few, second_few)) in (
      subst (λ (ts : List Table). IsProgress n f budget ts next) (sym all)
          (subst (IsProgress n f budget ((old ++ front) ++ back)) (sym (next_is n p next leaf c.split h split)) on),
      ap (λ (xs : List Node). length xs) split.nodes ∙ long,
    )
