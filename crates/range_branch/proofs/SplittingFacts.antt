-- The leaf that is split next: it is open, its relaxed plan breaks an arc, and its range can be cut.
use Rattle.std.proofs.Common.{◌≡◌, ℕ, ◌+◌, ◌-◌, ◌*◌, ◌<◌, List, length, sym, ap, ◌∙◌, subst, arith}
use Rattle.std.specs.Prelude.{Option, Some, None, unwrap_or}
use Rattle.std.proofs.lemmas.List.{length-map}
use Rattle.service_model.specs.declared.plan.Plan.{Plan}
use Rattle.service_model.specs.declared.range.Range.{Range}
use Rattle.service_model.specs.declared.table.Table.{Table}
use Rattle.service_model.specs.declared.cert.Outcome.TheVariants.{Spent}
use Rattle.service_model.specs.declared.cert.Verdict.{Verdict}
use Rattle.service_model.specs.Net.{Net, arc_in}
use Rattle.service_model.specs.Plans.{inbound_at}
use Rattle.service_model.specs.Networks.{IsNetwork}
use Rattle.service_model.specs.Tables.{transit_in}
use Rattle.service_model.specs.Ranges.{HoldsTime}
use Rattle.service_model.specs.CertRanges.{IsCut, AreCuts, range_at}
use Rattle.service_model.specs.Held.{none_held, no_plan, node_at, relaxed_at, roots_of, cuts_of, cut_by, range_of, bound_at}
use Rattle.service_model.specs.Earned.{IsNext, IsOpen, IsRelaxedAt, BreaksArc}
use Rattle.service_model.proofs.ArcFacts.{transit_in-arc}
use Rattle.tree_order.specs.declared.forest.Forest.{Forest}
use Rattle.tree_order.specs.Forest.{IsForest}
use Rattle.cert_laws.specs.SoFar.{SoundSoFar}
use Rattle.cert_laws.specs.Grown.{open_items}
use Rattle.cert_laws.proofs.CheckFacts.{none_sound, items_sound}
use Rattle.open_leaves.specs.declared.leaf.Leaf.{Leaf}
use Rattle.range_splits.specs.Breaks.{IsMostBroken}
use Rattle.range_splits.specs.Open.{IsLeastOf, IsEndingOf}
use Rattle.range_splits.proofs.NextFacts.{next_law}
use Rattle.range_splits.proofs.BreakFacts.{break_law}
use Rattle.range_splits.proofs.CutFacts.{cut_law}
use Rattle.range_nodes.specs.Nodes.{IsRangeNode}
use Rattle.range_nodes.proofs.PlanFacts.{relaxed_at as relaxed_at_law}
use Rattle.range_branch.specs.declared.progress.Progress.{Progress}
use Rattle.range_branch.specs.declared.halves.Cutting.{Cutting}
use Rattle.range_branch.specs.Progress.{came, cert_with, IsProgress}
use Rattle.range_branch.specs.Steps.{IsCutting}
use Rattle.range_branch.proofs.OpenFacts.{GoesOn, goes_on, is_open}

abbrev no_verdict : Verdict
no_verdict = record { outcome = Spent; bound = 0; plan = None }

-- what came is sound
pub sound_so_far : (n : Net) (f : Forest) (budget : ℕ) (tables : List Table) (p : Progress) → IsNetwork n → IsProgress n f budget tables p
    → SoundSoFar n (came n budget tables p)
sound_so_far n f budget tables p valid is =
    subst (SoundSoFar n) (is.held no_verdict)
    (items_sound n none_held (open_items (cert_with n budget tables p no_verdict)) valid (none_sound n) (is.keep no_verdict))

-- how many cuts and nodes there are
pub many_cuts : (n : Net) (budget : ℕ) (tables : List Table) (p : Progress) → length (cuts_of n (came n budget tables p)) ≡ length p.splits
many_cuts n budget tables p = length-map p.splits (cut_by n p.nodes)

pub many_nodes : (n : Net) (f : Forest) (budget : ℕ) (tables : List Table) (p : Progress) → IsProgress n f budget tables p
    → length p.nodes ≡ 2 * length p.splits + 1
many_nodes n f budget tables p is = (is.whole no_verdict).nodes

-- what is known of the leaf that is split next
pub record IsNextLeafOf (n : Net) (budget : ℕ) (tables : List Table) (p : Progress) (leaf : Leaf) : Type 0 where
  pub cuts : AreCuts n (cuts_of n (came n budget tables p))
  pub next : IsNext n (came n budget tables p) leaf.node
  pub within : leaf.node < length p.nodes
  pub bound : bound_at (came n budget tables p) leaf.node ≡ leaf.bound
  pub on : GoesOn n p.found leaf.bound (length p.nodes) budget
  pub opened : IsOpen n (came n budget tables p) leaf.node
  pub range : range_at p.ranges leaf.node ≡ range_of n (came n budget tables p) leaf.node
  pub relaxed : IsRelaxedAt n (came n budget tables p) leaf.node

pub next_leaf : (n : Net) (f : Forest) (budget : ℕ) (tables : List Table) (p : Progress) (leaf : Leaf) → IsNetwork n → IsForest (length n.stages) n.arcs f
    → IsProgress n f budget tables p → IsLeastOf p.leaves leaf → IsEndingOf n p.found leaf.bound (length p.nodes) budget None
    → IsNextLeafOf n budget tables p leaf
next_leaf n f budget tables p leaf valid forest is least unended =
    let h = came n budget tables p in
    let next = next_law tables (roots_of h) (cuts_of n h) p.leaves leaf is.leaves least in
    let own = (is.leaves leaf).0 least.there in
    let on = goes_on n p.found leaf.bound (length p.nodes) budget unended in
    let many = many_nodes n f budget tables p is in
    let cuts = many_cuts n budget tables p in
    let within : leaf.node < length p.nodes = let there = own.0.there in omega (arith, there, many, cuts) in
    let bound : bound_at h leaf.node ≡ leaf.bound = sym own.1 in
    let opened = is_open n h leaf.node p.found leaf.bound is.found bound on.unclosed on.finite in
    let range : range_at p.ranges leaf.node ≡ range_of n h leaf.node = ap (λ (rs : List Range). range_at rs leaf.node) is.ranges in
    let node = subst (λ (r : Range). IsRangeNode n f tables r (node_at p.nodes leaf.node)) range (is.nodes leaf.node within).node in
    record {
      cuts = (sound_so_far n f budget tables p valid is).cuts;
      next = next.0;
      within = within;
      bound = bound;
      on = on;
      opened = opened;
      range = range;
      relaxed = relaxed_at_law n f h leaf.node valid forest is.searched node opened.finite;
    }

-- how that leaf is split
pub record IsSplitAt (n : Net) (budget : ℕ) (tables : List Table) (p : Progress) (leaf : Leaf) (c : Cutting) : Type 0 where
  pub breaks : BreaksArc n (came n budget tables p) c.split
  pub cut : IsCut n (cuts_of n (came n budget tables p)) (cut_by n p.nodes c.split)
  pub holds : HoldsTime (range_at p.ranges leaf.node) c.split.supplier c.last
  pub next : HoldsTime (range_at p.ranges leaf.node) c.split.supplier (c.last + 1)
  pub last : (cut_by n p.nodes c.split).last ≡ c.last

pub split_at : (n : Net) (budget : ℕ) (tables : List Table) (p : Progress) (leaf : Leaf) (q : Plan) (c : Cutting) → IsNetwork n
    → IsNextLeafOf n budget tables p leaf → (node_at p.nodes leaf.node).relaxed ≡ Some q → IsCutting n leaf.node q c → IsSplitAt n budget tables p leaf c
split_at n budget tables p leaf q c valid is there cutting =
    let h = came n budget tables p in
    let s = c.split in
    let a = cutting.arc in
    let x = arc_in n.arcs a in
    let plan : relaxed_at p.nodes s.node ≡ q =
    ap (λ k. relaxed_at p.nodes k) cutting.node_is ∙ ap (λ (o : Option Plan). unwrap_or o no_plan) there in
    let breaks = break_law n h s a valid (subst (λ (r : Plan). IsMostBroken n r a) (sym plan) cutting.broken) cutting.supplier cutting.customer in
    let next = subst (IsNext n h) (sym cutting.node_is) is.next in
    let relaxed = subst (IsRelaxedAt n h) (sym cutting.node_is) is.relaxed in
    let (cut, holds, more) = cut_law n h s valid is.cuts next relaxed breaks in
    let transit : transit_in n.arcs s.supplier s.customer ≡ x.transit =
    ap (λ k. transit_in n.arcs k s.customer) cutting.supplier ∙ ap (λ k. transit_in n.arcs x.supplier k) cutting.customer
    ∙ transit_in-arc n a valid cutting.broken.there in
    let last : (cut_by n p.nodes s).last ≡ c.last =
    ap (λ (r : Plan). inbound_at r s.customer - transit_in n.arcs s.supplier s.customer) plan
    ∙ ap (λ k. inbound_at q k - transit_in n.arcs s.supplier s.customer) cutting.customer
    ∙ ap (λ k. inbound_at q x.customer - k) transit ∙ sym cutting.last in
    let range : range_of n h s.node ≡ range_at p.ranges leaf.node = ap (range_of n h) cutting.node_is ∙ sym is.range in
    record {
      breaks = breaks;
      cut = cut;
      holds = subst (λ (r : Range). HoldsTime r s.supplier c.last) range (subst (λ k. HoldsTime (range_of n h s.node) s.supplier k) last holds);
      next = subst (λ (r : Range). HoldsTime r s.supplier (c.last + 1)) range (subst (λ k. HoldsTime (range_of n h s.node) s.supplier (k + 1)) last more);
      last = last;
    }
