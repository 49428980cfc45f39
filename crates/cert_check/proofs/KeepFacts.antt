-- An item on which no rule fails leaves what is kept as it has to be.
use Rattle.std.proofs.Common.{◌≡◌, ◌≢◌, ℕ, ◌+◌, List, [], ◌∷◌, ◌++◌, length, Option, refl, sym, ap, ◌∙◌, subst}
use Rattle.std.specs.Prelude.{◌⊎◌, ◌↔◌, IfSome, Contains}
use Rattle.std.proofs.lemmas.List.{length-map, length_push, map_push}
use Rattle.std.proofs.lemmas.List.Elements.{All-push}
use Rattle.service_model.specs.declared.cert_rules.TheConstants.{SHAPE, RELAXED}
use Rattle.service_model.specs.declared.plan.Plan.{Plan}
use Rattle.service_model.specs.declared.table.Table.{Table}
use Rattle.service_model.specs.declared.cert.Head.{Head}
use Rattle.service_model.specs.declared.cert.Node.{Node}
use Rattle.service_model.specs.declared.cert.Split.{Split}
use Rattle.service_model.specs.declared.cert.Verdict.{Verdict}
use Rattle.service_model.specs.declared.cert.Item.TheVariants.{Head as HeadItem, Table as TableItem, Node as NodeItem, Split as SplitItem, End as EndItem}
use Rattle.service_model.specs.Net.{Net}
use Rattle.service_model.specs.Plans.{HasTimes}
use Rattle.service_model.specs.Nodes.{bound_of}
use Rattle.service_model.specs.CertNumbers.{TableInRange}
use Rattle.service_model.specs.Repairs.{Found, FoundOf, better}
use Rattle.service_model.specs.Held.{Held, held_with, relaxed_at, cut_by, cuts_of, relaxed_of, range_of, bound_at}
use Rattle.service_model.specs.CertRules.{Keeps}
use Rattle.cert_laws.proofs.ItemFacts.{item_more_law, same_cuts}
use Rattle.cert_laws.proofs.FoundFacts.{found_more_law}
use Rattle.split_rules.specs.declared.halves.Halves.{Halves}
use Rattle.split_rules.specs.declared.leaves.Leaf.{Leaf}
use Rattle.split_rules.specs.Halves.{AreHalves}
use Rattle.split_rules.specs.Leaves.{AreLeaves}
use Rattle.cert_check.specs.Arrivals.{Arrivals, halves_at, AreRangesOf, IsNodeMore, IsSplitMore, IsUnchanged}
use Rattle.cert_check.specs.Keeping.{IsKept}
use Rattle.cert_check.proofs.LeavesFacts.{table_leaves, node_leaves, split_leaves}
use Rattle.cert_check.proofs.RangesFacts.{new_ranges, ranges_more}

pub head_kept : (n : Net) (c : Arrivals) (g : Head) (found : Option Plan) → IsKept n c found → Keeps n c.held (HeadItem g)
    → IsKept n (record c { held = held_with c.held (HeadItem g) }) found
head_kept n c g found kept keeps = record {
  valid = kept.valid;
  sound = item_more_law n c.held (HeadItem g) kept.valid kept.sound keeps;
  tables = kept.tables;
  times = kept.times;
  paired = kept.paired;
  ranges = kept.ranges;
  leaves = kept.leaves;
  best = kept.best;
}

pub table_kept : (n : Net) (c : Arrivals) (t : Table) (found : Option Plan) → IsKept n c found → Keeps n c.held (TableItem t)
    → IsKept n (record c { held = held_with c.held (TableItem t) }) found
table_kept n c t found kept keeps = record {
  valid = kept.valid;
  sound = item_more_law n c.held (TableItem t) kept.valid kept.sound keeps;
  tables = All-push TableInRange c.held.tables t kept.tables (keeps SHAPE);
  times = kept.times;
  paired = kept.paired;
  ranges = kept.ranges;
  leaves = table_leaves n c.held t c.leaves kept.sound kept.leaves;
  best = kept.best;
}

pub end_kept : (n : Net) (c : Arrivals) (v : Verdict) (found : Option Plan) → IsKept n c found → Keeps n c.held (EndItem v)
    → IsKept n (record c { held = held_with c.held (EndItem v) }) found
end_kept n c v found kept keeps = record {
  valid = kept.valid;
  sound = item_more_law n c.held (EndItem v) kept.valid kept.sound keeps;
  tables = kept.tables;
  times = kept.times;
  paired = kept.paired;
  ranges = kept.ranges;
  leaves = kept.leaves;
  best = kept.best;
}

node_more : (n : Net) (c : Arrivals) (x : Node) (leaves : List Leaf) (found later : Option Plan) → IsKept n c found → Keeps n c.held (NodeItem x)
    → FoundOf n x.relaxed later
    → ((q : Leaf) → Contains leaves q ↔ (Contains c.leaves q ⊎ (q ≡ record { bound = bound_of c.held.tables x.roots; node = length c.held.nodes })))
    → IsKept n (record { held = held_with c.held (NodeItem x); halves = c.halves; leaves = leaves }) (better n found later)
node_more n c x leaves found later kept keeps more change = record {
  valid = kept.valid;
  sound = item_more_law n c.held (NodeItem x) kept.valid kept.sound keeps;
  tables = kept.tables;
  times = All-push (λ y. IfSome y.relaxed (HasTimes n)) c.held.nodes x kept.times (keeps RELAXED);
  paired = kept.paired;
  ranges = λ k within. subst (λ cuts. AreRangesOf n cuts k (halves_at c.halves k)) (sym (same_cuts n c.held x kept.sound.named)) (kept.ranges k within);
  leaves = node_leaves c.held x c.leaves leaves kept.sound.named change kept.leaves;
  best = subst (λ relaxed. Found n relaxed (better n found later)) (sym (map_push (λ y. y.relaxed) c.held.nodes x))
      (found_more_law n (relaxed_of c.held) x.relaxed found later kept.best more);
}

pub node_kept : (n : Net) (old new : Arrivals) (x : Node) (bound : ℕ) (found later : Option Plan) → IsKept n old found → Keeps n old.held (NodeItem x)
    → FoundOf n x.relaxed later → bound ≡ bound_of old.held.tables x.roots → IsNodeMore old new x bound → IsKept n new (better n found later)
node_kept n old new x bound found later kept keeps more is came =
    let change = subst (λ b. (q : Leaf) → Contains new.leaves q ↔ (Contains old.leaves q ⊎ (q ≡ record { bound = b; node = length old.held.nodes }))) is came.leaves in
    let now = node_more n old x new.leaves found later kept keeps more change in
    subst (λ h. IsKept n (record { held = h; halves = new.halves; leaves = new.leaves }) (better n found later)) (sym came.held)
    (subst (λ xs. IsKept n (record { held = held_with old.held (NodeItem x); halves = xs; leaves = new.leaves }) (better n found later)) (sym came.halves) now)

split_more : (n : Net) (c : Arrivals) (s : Split) (halves : Halves) (leaves : List Leaf) (found : Option Plan) → IsKept n c found → Keeps n c.held (SplitItem s)
    → AreHalves n (range_of n c.held s.node) (relaxed_at c.held.nodes s.node) s halves
    → ((q : Leaf) → Contains leaves q ↔ (Contains c.leaves q × (q ≢ record { bound = bound_at c.held s.node; node = s.node })))
    → IsKept n (record { held = held_with c.held (SplitItem s); halves = c.halves ++ halves ∷ []; leaves = leaves }) found
split_more n c s halves leaves found kept keeps are change =
    let h = c.held in
    let long = length-map h.splits (cut_by n h.nodes) in
    let same : cuts_of n (held_with h (SplitItem s)) ≡ cuts_of n h ++ cut_by n h.nodes s ∷ [] = map_push (cut_by n h.nodes) h.splits s in
    let new = new_ranges n (cuts_of n h) (cut_by n h.nodes s) (length (cuts_of n h)) halves refl are.left are.right are.left_intervals are.right_intervals in
    let paired : length c.halves ≡ length (cuts_of n h) = kept.paired ∙ sym long in
    record {
      valid = kept.valid;
      sound = item_more_law n h (SplitItem s) kept.valid kept.sound keeps;
      tables = kept.tables;
      times = kept.times;
      paired = length_push c.halves halves ∙ ap (λ k. k + 1) kept.paired ∙ sym (length_push h.splits s);
      ranges = λ k within. subst (λ cuts. AreRangesOf n cuts k (halves_at (c.halves ++ halves ∷ []) k)) (sym same)
          (ranges_more n (cuts_of n h) (cut_by n h.nodes s) c.halves halves paired kept.ranges new k within);
      leaves = split_leaves h s c.leaves leaves change kept.leaves;
      best = kept.best;
    }

pub split_kept : (n : Net) (old new : Arrivals) (s : Split) (halves : Halves) (bound : ℕ) (found : Option Plan) → IsKept n old found
    → Keeps n old.held (SplitItem s) → AreHalves n (range_of n old.held s.node) (relaxed_at old.held.nodes s.node) s halves → bound ≡ bound_at old.held s.node
    → IsSplitMore old new s halves bound → IsKept n new found
split_kept n old new s halves bound found kept keeps are is came =
    let change = subst (λ b. (q : Leaf) → Contains new.leaves q ↔ (Contains old.leaves q × (q ≢ record { bound = b; node = s.node }))) is came.leaves in
    let now = split_more n old s halves new.leaves found kept keeps are change in
    subst (λ h. IsKept n (record { held = h; halves = new.halves; leaves = new.leaves }) found) (sym came.held)
    (subst (λ xs. IsKept n (record { held = held_with old.held (SplitItem s); halves = xs; leaves = new.leaves }) found) (sym came.halves) now)

same_leaves : (h : Held) (before after : List Leaf) → ((q : Leaf) → Contains after q ↔ Contains before q) → AreLeaves h before → AreLeaves h after
same_leaves h before after same are q = (λ inside. (are q).0 ((same q).0 inside), λ own. (same q).1 ((are q).1 own))

unchanged : (n : Net) (c : Arrivals) (leaves : List Leaf) (found : Option Plan) → IsKept n c found → ((q : Leaf) → Contains leaves q ↔ Contains c.leaves q)
    → IsKept n (record c { leaves = leaves }) found
unchanged n c leaves found kept same = record {
  valid = kept.valid;
  sound = kept.sound;
  tables = kept.tables;
  times = kept.times;
  paired = kept.paired;
  ranges = kept.ranges;
  leaves = same_leaves c.held c.leaves leaves same kept.leaves;
  best = kept.best;
}

pub unchanged_kept : (n : Net) (old new : Arrivals) (found : Option Plan) → IsKept n old found → IsUnchanged old new → IsKept n new found
unchanged_kept n old new found kept is =
    subst (λ h. IsKept n (record { held = h; halves = new.halves; leaves = new.leaves }) found) (sym is.held)
    (subst (λ xs. IsKept n (record { held = old.held; halves = xs; leaves = new.leaves }) found) (sym is.halves)
    (unchanged n old new.leaves found kept is.leaves))
