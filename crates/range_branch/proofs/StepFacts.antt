-- The search after a leaf was split.
use Rattle.std.proofs.Common.{◌≡◌, ℕ, ◌+◌, ◌*◌, ◌<◌, ◌≤◌, List, [], ◌∷◌, ◌++◌, length, map, refl, sym, ap, ◌∙◌, subst, ⊎_elim, arith}
use Rattle.std.specs.Prelude.{Option, Some, All, slice_index_or}
use Rattle.std.proofs.lemmas.List.{append_assoc, map-append, length-append, length_push, length-map, get_or-map}
use Rattle.service_model.specs.declared.cert_rules.TheConstants.{MAX_BUDGET}
use Rattle.service_model.specs.declared.plan.Plan.{Plan}
use Rattle.service_model.specs.declared.range.Range.{Range}
use Rattle.service_model.specs.declared.table.Table.{Table}
use Rattle.service_model.specs.declared.cert.Node.{Node}
use Rattle.service_model.specs.declared.cert.Split.{Split}
use Rattle.service_model.specs.declared.cert.Verdict.{Verdict}
use Rattle.service_model.specs.declared.cert.Item.{Item}
use Rattle.service_model.specs.declared.cert.Item.TheVariants.{Split as SplitItem}
use Rattle.service_model.specs.Net.{Net, no_arc}
use Rattle.service_model.specs.Networks.{IsNetwork}
use Rattle.service_model.specs.Nodes.{bound_of}
use Rattle.service_model.specs.Ranges.{whole_of, ended, started}
use Rattle.service_model.specs.CertRanges.{Cut, no_range, range_at, with_halves, with_cuts, ranges_of, node_range}
use Rattle.service_model.specs.Repairs.{Found}
use Rattle.service_model.specs.CertNumbers.{InRange}
use Rattle.service_model.proofs.NetworkFacts.{IsNetwork-HasEnds}
use Rattle.service_model.specs.Held.{Held, none_held, held_after, no_node, node_at, cut_by, cuts_of, roots_of, range_of}
use Rattle.service_model.specs.Certs.{AllKeep}
use Rattle.service_model.specs.Earned.{IsNext, IsOpen, IsRelaxedAt}
use Rattle.tree_order.specs.declared.forest.Forest.{Forest}
use Rattle.tree_order.specs.Forest.{IsForest}
use Rattle.tree_order.proofs.ForestLaws.{all_kept}
use Rattle.arc_relax.specs.Laws.{HasPlan}
use Rattle.cert_laws.specs.Grown.{IsWhole, open_items, node_items}
use Rattle.cert_laws.proofs.KeptFacts.{AllKeep-append, held_after-append}
use Rattle.cert_laws.proofs.GrownFacts.{grown_law}
use Rattle.cert_laws.proofs.CutFacts.{left_node, right_node, length-ranges_of}
use Rattle.cert_laws.proofs.FoundFacts.{found_more_law}
use Rattle.cert_laws.proofs.SplitFacts.{ends_there}
use Rattle.open_leaves.specs.declared.leaf.Leaf.{Leaf}
use Rattle.range_splits.specs.Breaks.{IsMostBroken}
use Rattle.range_splits.specs.Open.{AreLeaves, IsLeastOf}
use Rattle.range_splits.proofs.SplitFacts.{split_law}
use Rattle.range_nodes.specs.declared.made.Made.{Made}
use Rattle.range_nodes.specs.Nodes.{AreSearched, IsRangeNode}
use Rattle.range_nodes.proofs.StayFacts.{node_stays, bound_stays}
use Rattle.search_laws.specs.Own.{seen_before, AreInTurn}
use Rattle.range_branch.specs.declared.progress.Progress.{Progress}
use Rattle.range_branch.specs.declared.halves.Cutting.{Cutting}
use Rattle.range_branch.specs.Progress.{came, cert_with, IsInside, IsNodeAt, IsProgress, IsFoundMore, AreReplaced, leaf_of}
use Rattle.range_branch.specs.Steps.{IsCutting}
use Rattle.range_branch.proofs.TwoMoreFacts.{old_at, left_at, right_at, long_two, where_at}
use Rattle.range_branch.proofs.TurnFacts.{AreNew, new_stay, new_in_turn, in_turn, last_seen, seen_before-old, seen_before-right}
use Rattle.range_branch.proofs.CutsFacts.{cuts_stay, cut_stays}
use Rattle.range_branch.proofs.ItemsFacts.{showing, all_keep, split_keeps}
use Rattle.range_branch.proofs.LeavesFacts.{AreCutLeaves, leaves_more}
use Rattle.range_branch.proofs.SplittingFacts.{IsNextLeafOf, IsSplitAt, many_cuts, many_nodes, sound_so_far}

-- the cuts with one split more, seen from nodes behind which more come
pub cuts_with : (n : Net) (nodes more : List Node) (splits : List Split) (s : Split) → All (λ t. t.node < length nodes) splits → s.node < length nodes
    → map (cut_by n (nodes ++ more)) (splits ++ s ∷ []) ≡ map (cut_by n nodes) splits ++ cut_by n nodes s ∷ []
cuts_with n nodes more splits s named there =
    map-append (cut_by n (nodes ++ more)) splits (s ∷ [])
    ∙ ap (λ cs. cs ++ cut_by n (nodes ++ more) s ∷ []) (cuts_stay n nodes more splits named)
    ∙ ap (λ c. map (cut_by n nodes) splits ++ c ∷ []) (cut_stays n nodes more s there)

with_more : (ranges : List Range) (cuts : List Cut) (c : Cut) → with_cuts ranges (cuts ++ c ∷ []) ≡ with_halves (with_cuts ranges cuts) c
with_more ranges [] c = refl
with_more ranges (x ∷ cuts) c = with_more (with_halves ranges x) cuts c

-- the search with the halves
abbrev pub split_of : Progress → Split → Range → Range → Node → Node → List Leaf → Option Plan → Progress
split_of p s left right x y leaves found = record {
  nodes = (p.nodes ++ x ∷ []) ++ y ∷ [];
  splits = p.splits ++ s ∷ [];
  ranges = (p.ranges ++ left ∷ []) ++ right ∷ [];
  leaves = leaves;
  found = found;
}

-- what the halves are
pub record AreSplitHalves (n : Net) (f : Forest) (budget : ℕ) (old front back : List Table) (p : Progress) (leaf : Leaf) (c : Cutting) (left right : Range) (x y : Made) : Type 0 where
  pub valid : IsNetwork n
  pub most : budget ≤ MAX_BUDGET
  pub forest : IsForest (length n.stages) n.arcs f
  pub is : IsProgress n f budget old p
  pub next : IsNextLeafOf n budget old p leaf
  pub at : IsSplitAt n budget old p leaf c
  pub node_is : c.split.node ≡ leaf.node
  pub left_is : left ≡ ended (range_at p.ranges leaf.node) c.split.supplier c.last
  pub right_is : right ≡ started (range_at p.ranges leaf.node) c.split.supplier c.last
  pub left_inside : IsInside n left
  pub right_inside : IsInside n right
  pub left_node : IsRangeNode n f (old ++ front) left x.node
  pub right_node : IsRangeNode n f ((old ++ front) ++ back) right y.node
  pub left_searched : AreSearched n (old ++ front)
  pub right_searched : AreSearched n ((old ++ front) ++ back)
  pub left_seen : x.node.seen ≡ length (old ++ front)
  pub right_seen : y.node.seen ≡ length ((old ++ front) ++ back)
  pub left_bound : x.bound ≡ bound_of (old ++ front) x.node.roots
  pub right_bound : y.bound ≡ bound_of ((old ++ front) ++ back) y.node.roots
  pub left_new : AreNew f (old ++ front) (length old) (length (old ++ front)) x.node
  pub right_new : AreNew f ((old ++ front) ++ back) (length (old ++ front)) (length ((old ++ front) ++ back)) y.node

-- the cuts before and behind the split
cuts_before : (n : Net) (f : Forest) (budget : ℕ) (old front back : List Table) (p : Progress) (leaf : Leaf) (c : Cutting) (left right : Range) (x y : Made)
    → AreSplitHalves n f budget old front back p leaf c left right x y → (more : List Node)
    → map (cut_by n (p.nodes ++ more)) (p.splits ++ c.split ∷ []) ≡ cuts_of n (came n budget old p) ++ cut_by n p.nodes c.split ∷ []
cuts_before n f budget old front back p leaf c left right x y h more =
    let within = h.next.within in
    let there : c.split.node < length p.nodes = omega (arith, h.node_is, within) in
    cuts_with n p.nodes more p.splits c.split (sound_so_far n f budget old p h.valid h.is).named there

-- the ranges of the two nodes
left_range : (n : Net) (f : Forest) (budget : ℕ) (old front back : List Table) (p : Progress) (leaf : Leaf) (c : Cutting) (left right : Range) (x y : Made)
    → AreSplitHalves n f budget old front back p leaf c left right x y
    → left ≡ range_of n (showing n budget (old ++ front) p.nodes (p.splits ++ c.split ∷ [])) (length p.nodes)
left_range n f budget old front back p leaf c left right x y h =
    let cuts = cuts_of n (came n budget old p) in
    let cut = cut_by n p.nodes c.split in
    let many = many_nodes n f budget old p h.is in
    let place : 2 * length cuts + 1 ≡ length p.nodes = omega (arith, many, many_cuts n budget old p) in
    let same : map (cut_by n p.nodes) (p.splits ++ c.split ∷ []) ≡ cuts ++ cut ∷ [] = map-append (cut_by n p.nodes) p.splits (c.split ∷ []) in
    let range : node_range n cuts c.split.node ≡ range_at p.ranges leaf.node = ap (node_range n cuts) h.node_is ∙ sym h.next.range in
    h.left_is
    ∙ ap (λ (r : Range). ended r c.split.supplier c.last) (sym range)
    ∙ ap (λ k. ended (node_range n cuts c.split.node) c.split.supplier k) (sym h.at.last)
    ∙ sym (left_node n cuts cut)
    ∙ ap (node_range n (cuts ++ cut ∷ [])) place
    ∙ ap (λ cs. node_range n cs (length p.nodes)) (sym same)

right_range : (n : Net) (f : Forest) (budget : ℕ) (old front back : List Table) (p : Progress) (leaf : Leaf) (c : Cutting) (left right : Range) (x y : Made)
    → (h : AreSplitHalves n f budget old front back p leaf c left right x y)
    → right ≡ range_of n (showing n budget ((old ++ front) ++ back) (p.nodes ++ x.node ∷ []) (p.splits ++ c.split ∷ [])) (length (p.nodes ++ x.node ∷ []))
right_range n f budget old front back p leaf c left right x y h =
    let cuts = cuts_of n (came n budget old p) in
    let cut = cut_by n p.nodes c.split in
    let many = many_nodes n f budget old p h.is in
    let place : 2 * length cuts + 2 ≡ length (p.nodes ++ x.node ∷ []) = omega (arith, many, many_cuts n budget old p, length_push p.nodes x.node) in
    let same = cuts_before n f budget old front back p leaf c left right x y h (x.node ∷ []) in
    let range : node_range n cuts c.split.node ≡ range_at p.ranges leaf.node = ap (node_range n cuts) h.node_is ∙ sym h.next.range in
    h.right_is
    ∙ ap (λ (r : Range). started r c.split.supplier c.last) (sym range)
    ∙ ap (λ k. started (node_range n cuts c.split.node) c.split.supplier k) (sym h.at.last)
    ∙ sym (right_node n cuts cut)
    ∙ ap (node_range n (cuts ++ cut ∷ [])) place
    ∙ ap (λ cs. node_range n cs (length (p.nodes ++ x.node ∷ []))) (sym same)

-- the ranges with the two halves
new_ranges : (n : Net) (f : Forest) (budget : ℕ) (old front back : List Table) (p : Progress) (leaf : Leaf) (c : Cutting) (left right : Range) (x y : Made)
    → AreSplitHalves n f budget old front back p leaf c left right x y
    → (p.ranges ++ left ∷ []) ++ right ∷ [] ≡ ranges_of n (cuts_of n (came n budget old p) ++ cut_by n p.nodes c.split ∷ [])
new_ranges n f budget old front back p leaf c left right x y h =
    let cuts = cuts_of n (came n budget old p) in
    let cut = cut_by n p.nodes c.split in
    let s = c.split in
    let rs = ranges_of n cuts in
    let range : range_at p.ranges leaf.node ≡ range_at rs s.node = ap (λ (ys : List Range). range_at ys leaf.node) h.is.ranges ∙ ap (range_at rs) (sym h.node_is) in
    let left_half : left ≡ ended (range_at rs s.node) s.supplier cut.last =
    h.left_is ∙ ap (λ (r : Range). ended r s.supplier c.last) range ∙ ap (λ k. ended (range_at rs s.node) s.supplier k) (sym h.at.last) in
    let right_half : right ≡ started (range_at rs s.node) s.supplier cut.last =
    h.right_is ∙ ap (λ (r : Range). started r s.supplier c.last) range ∙ ap (λ k. started (range_at rs s.node) s.supplier k) (sym h.at.last) in
    append_assoc p.ranges (left ∷ []) (right ∷ [])
    ∙ ap (λ (ys : List Range). ys ++ left ∷ right ∷ []) h.is.ranges
    ∙ ap (λ (r : Range). rs ++ r ∷ right ∷ []) left_half
    ∙ ap (λ (r : Range). rs ++ ended (range_at rs s.node) s.supplier cut.last ∷ r ∷ []) right_half
    ∙ sym (with_more (whole_of n ∷ []) cuts cut)

-- the split's numbers are in their ranges
split_in_range : (n : Net) (budget : ℕ) (old : List Table) (p : Progress) (leaf : Leaf) (c : Cutting) → IsNetwork n → budget ≤ MAX_BUDGET → IsNextLeafOf n budget old p leaf
    → IsSplitAt n budget old p leaf c → c.split.node ≡ leaf.node → InRange (SplitItem c.split)
split_in_range n budget old p leaf c valid most next at node_is =
    let room = next.on.room in
    let ends = ends_there n c.split.supplier c.split.customer (IsNetwork-HasEnds n valid) at.breaks.arc in
    record {
      node = omega (arith, node_is, next.within, room, most);
      supplier = omega (arith, ends.0, valid.few_stages);
      customer = omega (arith, ends.1, valid.few_stages);
    }

-- the split and its two nodes keep all rules
new_items : (n : Net) (f : Forest) (budget : ℕ) (old front back : List Table) (p : Progress) (leaf : Leaf) (c : Cutting) (left right : Range) (x y : Made)
    → AreSplitHalves n f budget old front back p leaf c left right x y
    → AllKeep n (came n budget old p) (SplitItem c.split ∷ (node_items front x.node ++ node_items back y.node))
    × (held_after (came n budget old p) (SplitItem c.split ∷ (node_items front x.node ++ node_items back y.node))
    ≡ showing n budget ((old ++ front) ++ back) ((p.nodes ++ x.node ∷ []) ++ y.node ∷ []) (p.splits ++ c.split ∷ []))
new_items n f budget old front back p leaf c left right x y h =
    let many = many_nodes n f budget old p h.is in
    let room = h.next.on.room in
    let splits = length_push p.splits c.split in
    let s = c.split in
    let rules = split_law n (came n budget old p) s (subst (IsNext n (came n budget old p)) (sym h.node_is) h.next.next)
    (subst (IsOpen n (came n budget old p)) (sym h.node_is) h.next.opened) (subst (IsRelaxedAt n (came n budget old p)) (sym h.node_is) h.next.relaxed) h.at.breaks in
    let split = split_keeps n budget old p.nodes p.splits s (split_in_range n budget old p leaf c h.valid h.most h.next h.at h.node_is) (omega (arith, many)) rules in
    all_keep n f budget old front back p.nodes p.splits s left right x.node y.node h.valid h.forest split
    (record {
      searched = h.left_searched;
      intervals = h.left_inside.intervals;
      node = h.left_node;
      range = left_range n f budget old front back p leaf c left right x y h;
      within = omega (arith, room);
      placed = omega (arith, many, splits);
    })
    (record {
      searched = h.right_searched;
      intervals = h.right_inside.intervals;
      node = h.right_node;
      range = right_range n f budget old front back p leaf c left right x y h;
      within = omega (arith, room, length_push p.nodes x.node);
      placed = omega (arith, many, splits, length_push p.nodes x.node);
    })

-- the certificate grows by the split and its two nodes
open_grown : (n : Net) (f : Forest) (budget : ℕ) (old front back : List Table) (p : Progress) (leaf : Leaf) (c : Cutting) (left right : Range) (x y : Made)
    (leaves : List Leaf) (found : Option Plan) → AreSplitHalves n f budget old front back p leaf c left right x y → (v : Verdict)
    → IsWhole (cert_with n budget ((old ++ front) ++ back) (split_of p c.split left right x.node y.node leaves found) v)
    × (open_items (cert_with n budget ((old ++ front) ++ back) (split_of p c.split left right x.node y.node leaves found) v)
    ≡ open_items (cert_with n budget old p v) ++ (SplitItem c.split ∷ (node_items front x.node ++ node_items back y.node)))
open_grown n f budget old front back p leaf c left right x y leaves found h v =
    let first = length-append old front in
    let second = length-append (old ++ front) back in
    grown_law (cert_with n budget old p v) c.split front back x.node y.node (h.is.whole v)
    (omega (arith, h.left_seen, first)) (omega (arith, h.right_seen, first, second))

-- as many ranges as nodes
pub many_ranges : (n : Net) (f : Forest) (budget : ℕ) (tables : List Table) (p : Progress) → IsProgress n f budget tables p → length p.ranges ≡ length p.nodes
many_ranges n f budget tables p is =
    ap (λ (ys : List Range). length ys) is.ranges ∙ length-ranges_of n (cuts_of n (came n budget tables p))
    ∙ ap (λ m. 2 * m + 1) (many_cuts n budget tables p) ∙ sym (many_nodes n f budget tables p is)

-- the nodes are their ranges
nodes_at : (n : Net) (f : Forest) (budget : ℕ) (old front back : List Table) (p : Progress) (leaf : Leaf) (c : Cutting) (left right : Range) (x y : Made)
    (leaves : List Leaf) (found : Option Plan) → AreSplitHalves n f budget old front back p leaf c left right x y → (k : ℕ) → k < length p.nodes + 2
    → IsNodeAt n f ((old ++ front) ++ back) (split_of p c.split left right x.node y.node leaves found) k
nodes_at n f budget old front back p leaf c left right x y leaves found h k within =
    let tables = (old ++ front) ++ back in
    let rs = (p.ranges ++ left ∷ []) ++ right ∷ [] in
    let xs = (p.nodes ++ x.node ∷ []) ++ y.node ∷ [] in
    let long = many_ranges n f budget old p h.is in
    let at = λ (r : Range) (z : Node) (inside : IsInside n r) (node : IsRangeNode n f tables r z) (range_is : range_at rs k ≡ r) (node_is : node_at xs k ≡ z).
    (let found : IsNodeAt n f tables (split_of p c.split left right x.node y.node leaves found) k = record {
      range = subst (IsInside n) (sym range_is) inside;
      node = subst (λ (r' : Range). IsRangeNode n f tables r' (node_at xs k)) (sym range_is) (subst (IsRangeNode n f tables r) (sym node_is) node);
    } in found) in
    ⊎_elim
    (λ low.
    let there = h.is.nodes k low in
    let searched = subst (AreSearched n) (append_assoc old front back) h.right_searched in
    let stays = subst (λ (ts : List Table). IsRangeNode n f ts (range_at p.ranges k) (node_at p.nodes k)) (sym (append_assoc old front back))
    (node_stays n f old (front ++ back) (range_at p.ranges k) (node_at p.nodes k) searched there.node) in
    at (range_at p.ranges k) (node_at p.nodes k) there.range stays (old_at p.ranges left right no_range k (omega (arith, low, long))) (old_at p.nodes x.node y.node no_node k low))
    (⊎_elim
    (λ is. at left x.node h.left_inside (node_stays n f (old ++ front) back left x.node h.right_searched h.left_node)
    (left_at p.ranges left right no_range k (long ∙ is)) (left_at p.nodes x.node y.node no_node k is))
    (λ is. at right y.node h.right_inside h.right_node (right_at p.ranges left right no_range k (ap (λ m. m + 1) long ∙ is)) (right_at p.nodes x.node y.node no_node k is)))
    (where_at (length p.nodes) k within)

-- each node's new tables come in turn
turns_at : (n : Net) (f : Forest) (budget : ℕ) (old front back : List Table) (p : Progress) (leaf : Leaf) (c : Cutting) (left right : Range) (x y : Made)
    (leaves : List Leaf) (found : Option Plan) → AreSplitHalves n f budget old front back p leaf c left right x y → (v : Verdict) → (k : ℕ) → k < length p.nodes + 2
    → AreInTurn f (cert_with n budget ((old ++ front) ++ back) (split_of p c.split left right x.node y.node leaves found) v) k
turns_at n f budget old front back p leaf c left right x y leaves found h v k within =
    let now = cert_with n budget ((old ++ front) ++ back) (split_of p c.split left right x.node y.node leaves found) v in
    let was = cert_with n budget old p v in
    let searched = subst (AreSearched n) (append_assoc old front back) h.right_searched in
    let last = last_seen was (h.is.whole v) in
    ⊎_elim
    (λ low.
    let there : (node_at p.nodes k).seen ≤ length old = (h.is.whole v).seen k no_node low in
    let stays = subst (λ (ts : List Table). AreNew f ts (seen_before p.nodes k) (node_at p.nodes k).seen (node_at p.nodes k)) (sym (append_assoc old front back))
    (new_stay n f old (front ++ back) (range_at p.ranges k) (node_at p.nodes k) (seen_before p.nodes k) (node_at p.nodes k).seen searched
    (h.is.nodes k low).node there (new_in_turn f was k (h.is.turns v k low))) in
    in_turn f now k (seen_before p.nodes k) (node_at p.nodes k).seen (node_at p.nodes k) (seen_before-old p.nodes x.node y.node k (omega (arith, low)))
    (old_at p.nodes x.node y.node no_node k low) refl stays)
    (⊎_elim
    (λ is.
    let stays = new_stay n f (old ++ front) back left x.node (length old) (length (old ++ front)) h.right_searched h.left_node (omega arith) h.left_new in
    in_turn f now k (length old) (length (old ++ front)) x.node
    (seen_before-old p.nodes x.node y.node k (omega (arith, is)) ∙ ap (seen_before p.nodes) (sym is) ∙ last) (left_at p.nodes x.node y.node no_node k is) h.left_seen stays)
    (λ is. in_turn f now k (length (old ++ front)) (length ((old ++ front) ++ back)) y.node
    (seen_before-right p.nodes x.node y.node k is ∙ h.left_seen) (right_at p.nodes x.node y.node no_node k is) h.right_seen h.right_new))
    (where_at (length p.nodes) k within)

-- the relaxed plan that is split breaks an arc that the forest drops
drops : (n : Net) (f : Forest) (tables : List Table) (r : Range) (z : Node) (q : Plan) (a : ℕ) → IsForest (length n.stages) n.arcs f
    → IsRangeNode n f tables r z → z.relaxed ≡ Some q → IsMostBroken n q a → (let none : List ℕ = [] in f.dropped ≡ none) → ⊥
drops n f tables r z q a forest node there broken none =
    let kept = all_kept (length n.stages) n.arcs f forest none in
    let plan = subst (HasPlan n r f.parent (bound_of tables z.roots)) there node.plan in
    let within = broken.there in
    let met = plan.0.arcs a within (kept a no_arc within) in
    let late = broken.broken in
    omega (arith, met, late)

-- the plan found with the two nodes more
found_more : (n : Net) (nodes : List Node) (x y : Node) (old between new : Option Plan) → Found n (map (λ z. z.relaxed) nodes) old
    → IsFoundMore n x.relaxed old between → IsFoundMore n y.relaxed between new → Found n (map (λ z. z.relaxed) ((nodes ++ x ∷ []) ++ y ∷ [])) new
found_more n nodes x y old between new found one two =
    let relaxed = map (λ (z : Node). z.relaxed) nodes in
    let first = subst (Found n (relaxed ++ x.relaxed ∷ [])) (sym one.better_is) (found_more_law n relaxed x.relaxed old one.next found one.is_next) in
    let second = subst (Found n ((relaxed ++ x.relaxed ∷ []) ++ y.relaxed ∷ [])) (sym two.better_is)
    (found_more_law n (relaxed ++ x.relaxed ∷ []) y.relaxed between two.next first two.is_next) in
    let same : map (λ (z : Node). z.relaxed) ((nodes ++ x ∷ []) ++ y ∷ []) ≡ (relaxed ++ x.relaxed ∷ []) ++ y.relaxed ∷ [] =
    map-append (λ (z : Node). z.relaxed) (nodes ++ x ∷ []) (y ∷ [])
    ∙ ap (λ os. os ++ y.relaxed ∷ []) (map-append (λ (z : Node). z.relaxed) nodes (x ∷ [])) in
    subst (λ os. Found n os new) (sym same) second

same_roots : (nodes : List Node) (x y : Node) → map (λ (z : Node). z.roots) ((nodes ++ x ∷ []) ++ y ∷ [])
    ≡ (map (λ (z : Node). z.roots) nodes ++ x.roots ∷ []) ++ y.roots ∷ []
same_roots nodes x y =
    map-append (λ (z : Node). z.roots) (nodes ++ x ∷ []) (y ∷ []) ∙ ap (λ rs. rs ++ y.roots ∷ []) (map-append (λ (z : Node). z.roots) nodes (x ∷ []))

-- the bounds of the old nodes stay
bounds_stay : (n : Net) (f : Forest) (budget : ℕ) (old more : List Table) (p : Progress) → IsProgress n f budget old p
    → (k : ℕ) → k < length (roots_of (came n budget old p))
    → bound_of (old ++ more) (slice_index_or (roots_of (came n budget old p)) k []) ≡ bound_of old (slice_index_or (roots_of (came n budget old p)) k [])
bounds_stay n f budget old more p is k within =
    let low : k < length p.nodes = omega (arith, within, length-map p.nodes (λ (z : Node). z.roots)) in
    let at = get_or-map (λ (z : Node). z.roots) p.nodes k no_node [] low in
    let there = is.nodes k low in
    ap (bound_of (old ++ more)) at ∙ bound_stays n f old more (range_at p.ranges k) (node_at p.nodes k) there.node ∙ ap (bound_of old) (sym at)

-- the search goes on with the halves
pub goes_on_with : (n : Net) (f : Forest) (budget : ℕ) (old front back : List Table) (p : Progress) (leaf : Leaf) (q : Plan) (c : Cutting) (left right : Range) (x y : Made)
    (leaves : List Leaf) (between found : Option Plan) → AreSplitHalves n f budget old front back p leaf c left right x y
    → IsLeastOf p.leaves leaf → (node_at p.nodes leaf.node).relaxed ≡ Some q → IsCutting n leaf.node q c
    → AreReplaced p.leaves leaves leaf (leaf_of x.bound (length p.nodes)) (leaf_of y.bound (length p.nodes + 1))
    → IsFoundMore n x.node.relaxed p.found between → IsFoundMore n y.node.relaxed between found
    → length ((old ++ front) ++ back) ≤ length ((p.nodes ++ x.node ∷ []) ++ y.node ∷ []) * length n.stages
    → IsProgress n f budget ((old ++ front) ++ back) (split_of p c.split left right x.node y.node leaves found)
goes_on_with n f budget old front back p leaf q c left right x y leaves between found h least there cutting replaced one two few =
    let new = split_of p c.split left right x.node y.node leaves found in
    let tables = (old ++ front) ++ back in
    let g = came n budget old p in
    let cuts = cuts_of n g in
    let cut = cut_by n p.nodes c.split in
    let many = many_nodes n f budget old p h.is in
    let room = h.next.on.room in
    let items = new_items n f budget old front back p leaf c left right x y h in
    let more : List Item = SplitItem c.split ∷ (node_items front x.node ++ node_items back y.node) in
    let grown_items = open_grown n f budget old front back p leaf c left right x y leaves found h in
    let both_cuts : map (cut_by n new.nodes) new.splits ≡ cuts ++ cut ∷ [] =
    ap (λ (zs : List Node). map (cut_by n zs) new.splits) (append_assoc p.nodes (x.node ∷ []) (y.node ∷ []))
    ∙ cuts_before n f budget old front back p leaf c left right x y h (x.node ∷ y.node ∷ []) in
    let roots = roots_of g in
    let long : length roots ≡ length p.nodes = length-map p.nodes (λ (z : Node). z.roots) in
    let left_bound : x.bound ≡ bound_of tables x.node.roots = h.left_bound ∙ sym (bound_stays n f (old ++ front) back left x.node h.left_node) in
    let cut_leaves : AreCutLeaves n old tables roots x.node.roots y.node.roots cuts cut leaf
    (leaf_of x.bound (length p.nodes)) (leaf_of y.bound (length p.nodes + 1)) = record {
      cuts_are = h.next.cuts;
      cut = h.at.cut;
      many = omega (arith, long, many, many_cuts n budget old p);
      same = subst (λ (ts : List Table). (k : ℕ) → k < length roots → bound_of ts (slice_index_or roots k []) ≡ bound_of old (slice_index_or roots k []))
          (sym (append_assoc old front back)) (bounds_stay n f budget old (front ++ back) p h.is);
      named = sym h.node_is;
      left_is = ap (λ b. leaf_of b (length p.nodes)) left_bound ∙ ap (leaf_of (bound_of tables x.node.roots)) (sym long);
      right_is = ap (λ b. leaf_of b (length p.nodes + 1)) h.right_bound ∙ ap (λ m. leaf_of (bound_of tables y.node.roots) (m + 1)) (sym long);
    } in
    let leaves_are = leaves_more n old tables roots x.node.roots y.node.roots cuts cut leaf (leaf_of x.bound (length p.nodes)) (leaf_of y.bound (length p.nodes + 1))
    p.leaves leaves cut_leaves h.is.leaves least.there replaced in
    let cut_ranges : (p.ranges ++ left ∷ []) ++ right ∷ [] ≡ ranges_of n (cuts ++ cut ∷ []) = new_ranges n f budget old front back p leaf c left right x y h in
    record {
      whole = λ v. (grown_items v).0;
      keep = λ v. subst (AllKeep n none_held) (sym (grown_items v).1)
          (AllKeep-append n none_held (open_items (cert_with n budget old p v)) more (h.is.keep v) (subst (λ (k : Held). AllKeep n k more) (sym (h.is.held v)) items.0));
      held = λ v. ap (held_after none_held) (grown_items v).1
          ∙ held_after-append none_held (open_items (cert_with n budget old p v)) more
          ∙ ap (λ (k : Held). held_after k more) (h.is.held v) ∙ items.1;
      within = omega (arith, room, long_two p.nodes x.node y.node);
      searched = h.right_searched;
      few = few;
      ranges = cut_ranges ∙ ap (ranges_of n) (sym both_cuts);
      nodes = λ k within. nodes_at n f budget old front back p leaf c left right x y leaves found h k (omega (arith, within, long_two p.nodes x.node y.node));
      turns = λ v k within. turns_at n f budget old front back p leaf c left right x y leaves found h v k (omega (arith, within, long_two p.nodes x.node y.node));
      leaves = subst (λ cs. AreLeaves tables (roots_of (came n budget tables new)) cs leaves) (sym both_cuts)
          (subst (λ rs. AreLeaves tables rs (cuts ++ cut ∷ []) leaves) (sym (same_roots p.nodes x.node y.node)) leaves_are);
      found = found_more n p.nodes x.node y.node p.found between found h.is.found one two;
      tree = λ none. absurd (drops n f old (range_at p.ranges leaf.node) (node_at p.nodes leaf.node) q cutting.arc h.forest (h.is.nodes leaf.node h.next.within).node there
          cutting.broken none);
    }
