-- An item on which no rule fails leaves what came sound.
use Rattle.std.proofs.Common.{◌≡◌, ℕ, ◌*◌, ◌-◌, ◌<◌, List, [], ◌∷◌, ◌++◌, length, map, Option, Some, refl, sym, ap, subst, ⊎_elim, arith}
use Rattle.std.specs.Prelude.{All, unwrap_or}
use Rattle.std.specs.List.{AllByRecursion}
use Rattle.std.proofs.lemmas.Bool.{cases_lt, ltb-false, leb-false}
use Rattle.std.proofs.lemmas.List.{length-map, length_push, map_push, get_or_append_left, get_or_push, get_or-map}
use Rattle.std.proofs.lemmas.List.Elements.{All-push, recursion_from_All}
use Rattle.service_model.specs.declared.cert_rules.TheConstants.{PLACE, TABLE, CHILD, CHILD_ARC, LOCAL, ROOT, FITS, STAGE_TWICE, SPLIT_NODE, SPLIT_PLAN, SPLIT_ARC, VERDICT, PLAN}
use Rattle.service_model.specs.declared.plan.Plan.{Plan}
use Rattle.service_model.specs.declared.table.Table.{Table}
use Rattle.service_model.specs.declared.cert.Head.{Head}
use Rattle.service_model.specs.declared.cert.Node.{Node}
use Rattle.service_model.specs.declared.cert.Split.{Split}
use Rattle.service_model.specs.declared.cert.Verdict.{Verdict}
use Rattle.service_model.specs.declared.cert.Item.TheVariants.{Head as HeadItem, Table as TableItem, Node as NodeItem, Split as SplitItem, End as EndItem}
use Rattle.service_model.specs.Net.{Net}
use Rattle.service_model.specs.Plans.{inbound_at}
use Rattle.service_model.specs.Networks.{IsNetwork}
use Rattle.service_model.specs.Customers.{HasEnds}
use Rattle.service_model.specs.Tables.{transit_in}
use Rattle.service_model.specs.Nodes.{IsNode}
use Rattle.service_model.specs.CertRanges.{Cut, AreCuts, AreNodes, node_range}
use Rattle.service_model.specs.Verdicts.{IsTrueOf}
use Rattle.service_model.specs.Held.{Held, held_with, budget_of, no_node, node_at, no_plan, relaxed_at, cut_by, cuts_of, roots_of, range_of, searched}
use Rattle.service_model.specs.CertRules.{Keeps}
use Rattle.service_model.proofs.NetworkFacts.{IsNetwork-HasEnds}
use Rattle.gsm_laws.proofs.ElementFacts.{each}
use Rattle.cert_laws.specs.SoFar.{SoundSoFar}
use Rattle.cert_laws.specs.ItemLaws.{ItemMoreLaw}
use Rattle.cert_laws.proofs.CutFacts.{old_node}
use Rattle.cert_laws.proofs.GrowFacts.{table_more_law, node_stays_law}
use Rattle.cert_laws.proofs.SplitFacts.{is_cut, cuts_more}
use Rattle.cert_laws.proofs.TruthFacts.{true_law}

head_more : (n : Net) (h : Held) (g : Head) → SoundSoFar n h → SoundSoFar n (held_with h (HeadItem g))
head_more n h g sound = record {
  tables = sound.tables;
  nodes = sound.nodes;
  cuts = sound.cuts;
  few = sound.few;
  named = sound.named;
  verdict = sound.verdict;
}

table_more : (n : Net) (h : Held) (t : Table) → SoundSoFar n h → Keeps n h (TableItem t) → SoundSoFar n (held_with h (TableItem t))
table_more n h t sound keep = record {
  tables = table_more_law n h.tables t sound.tables (keep TABLE) (keep CHILD) (keep CHILD_ARC) (keep LOCAL);
  nodes = λ k within. node_stays_law n h.tables (t ∷ []) _ _ sound.tables (sound.nodes k within);
  cuts = sound.cuts;
  few = sound.few;
  named = sound.named;
  verdict = sound.verdict;
}

-- ---- a node
cuts_agree : (n : Net) (xs ys : List Node) (splits : List Split) → AllByRecursion (λ s. node_at xs s.node ≡ node_at ys s.node) splits
    → map (cut_by n xs) splits ≡ map (cut_by n ys) splits
cuts_agree n xs ys [] same = refl
cuts_agree n xs ys (s ∷ splits) same =
    let rest = cuts_agree n xs ys splits same.1 in
    let plan : relaxed_at xs s.node ≡ relaxed_at ys s.node = ap (λ (x : Node). unwrap_or x.relaxed no_plan) same.0 in
    let first : cut_by n xs s ≡ cut_by n ys s =
    ap (λ (p : Plan). (let c : Cut = record { node = s.node; stage = s.supplier; last = inbound_at p s.customer - transit_in n.arcs s.supplier s.customer } in c)) plan in
    cc

-- one node more leaves the cuts
pub same_cuts : (n : Net) (h : Held) (x : Node) → All (λ s. s.node < length h.nodes) h.splits → cuts_of n (held_with h (NodeItem x)) ≡ cuts_of n h
same_cuts n h x named =
    cuts_agree n (h.nodes ++ x ∷ []) h.nodes h.splits
    (each (λ s. s.node < length h.nodes) (λ s. node_at (h.nodes ++ x ∷ []) s.node ≡ node_at h.nodes s.node)
    (λ s within. get_or_append_left h.nodes (x ∷ []) no_node s.node within) h.splits (recursion_from_All (λ s. s.node < length h.nodes) h.splits named))

new_node : (n : Net) (h : Held) (x : Node) → Keeps n h (NodeItem x) → IsNode n h.tables (range_of n h (length h.nodes)) x.roots
new_node n h x keep =
    let roots = keep ROOT in
    record {
      there = λ a d inside. (roots a d inside).0;
      kinds = λ a d inside. (roots a d inside).1;
      fits = keep FITS;
      once = keep STAGE_TWICE;
    }

each_node : (n : Net) (h : Held) (x : Node) → SoundSoFar n h → Keeps n h (NodeItem x) → (k : ℕ) → k < length (h.nodes ++ x ∷ [])
    → IsNode n h.tables (range_of n h k) (node_at (h.nodes ++ x ∷ []) k).roots
each_node n h x sound keep k within = ⊎_elim
    (λ old.
    subst (λ (y : Node). IsNode n h.tables (range_of n h k) y.roots) (sym (get_or_append_left h.nodes (x ∷ []) no_node k old)) (sound.nodes k old))
    (λ late.
    let last : length h.nodes ≡ k = omega (arith, length_push h.nodes x) in
    subst (λ (y : Node). IsNode n h.tables (range_of n h k) y.roots) (sym (get_or_push h.nodes x no_node k last))
    (subst (λ j. IsNode n h.tables (range_of n h j) x.roots) last (new_node n h x keep)))
    (cases_lt k (length h.nodes))

node_more : (n : Net) (h : Held) (x : Node) → SoundSoFar n h → Keeps n h (NodeItem x) → SoundSoFar n (held_with h (NodeItem x))
node_more n h x sound keep =
    let same = same_cuts n h x sound.named in
    let long = length_push h.nodes x in
    let room = ltb-false (2 * length h.splits) (length h.nodes) (keep PLACE) in
    record {
      tables = sound.tables;
      nodes = λ k within.
          subst (λ cuts. IsNode n h.tables (node_range n cuts k) (node_at (h.nodes ++ x ∷ []) k).roots) (sym same) (each_node n h x sound keep k within);
      cuts = subst (AreCuts n) (sym same) sound.cuts;
      few = omega (arith, room, long);
      named = λ a d inside. omega (arith, sound.named a d inside, long);
      verdict = sound.verdict;
    }

-- ---- a split
split_more : (n : Net) (h : Held) (s : Split) → HasEnds (length n.stages) n.arcs → SoundSoFar n h → Keeps n h (SplitItem s) → SoundSoFar n (held_with h (SplitItem s))
split_more n h s ends sound keep =
    let all = leb-false (length h.nodes) (2 * length h.splits) (keep PLACE) in
    let next = keep SPLIT_NODE in
    let same : cuts_of n (held_with h (SplitItem s)) ≡ cuts_of n h ++ cut_by n h.nodes s ∷ [] = map_push (cut_by n h.nodes) h.splits s in
    let cut = is_cut n h s ends sound.cuts next (keep SPLIT_PLAN) (keep SPLIT_ARC) in
    let long = length-map h.splits (cut_by n h.nodes) in
    let few = sound.few in
    record {
      tables = sound.tables;
      nodes = λ k within.
          subst (λ cuts. IsNode n h.tables (node_range n cuts k) (node_at h.nodes k).roots) (sym same)
          (subst (λ r. IsNode n h.tables r (node_at h.nodes k).roots)
          (sym (old_node n (cuts_of n h) (cut_by n h.nodes s) k (omega (arith, long, few)))) (sound.nodes k within));
      cuts = subst (AreCuts n) (sym same) (cuts_more n (cuts_of n h) (cut_by n h.nodes s) sound.cuts cut);
      few = omega (arith, few, length_push h.splits s);
      named = All-push (λ x. x.node < length h.nodes) h.splits s sound.named (omega (arith, next.leaf.there, long, all));
      verdict = sound.verdict;
    }

-- ---- the end
-- each node of the search fits its range, where all nodes came
all_nodes : (n : Net) (h : Held) → SoundSoFar n h → 2 * length h.splits < length h.nodes → AreNodes n h.tables (roots_of h) (cuts_of n h)
all_nodes n h sound all k within =
    let long = length-map h.splits (cut_by n h.nodes) in
    let there : k < length h.nodes = omega (arith, within, long, all) in
    subst (IsNode n h.tables (range_of n h k)) (sym (get_or-map (λ x. x.roots) h.nodes k no_node [] there)) (sound.nodes k there)

end_true : (n : Net) (h : Held) (v : Verdict) → IsNetwork n → SoundSoFar n h → Keeps n h (EndItem v) → IsTrueOf n v
end_true n h v valid sound keep =
    let all = leb-false (length h.nodes) (2 * length h.splits) (keep PLACE) in
    let told = keep VERDICT in
    let plan = keep PLAN in
    true_law n (searched n h) (budget_of h) v valid sound.tables sound.cuts (all_nodes n h sound all)
    (told.0, told.1, plan told.0 told.1.is_found)

some_verdict : {v w : Verdict} → (let a : Option Verdict = Some v in a ≡ Some w) → v ≡ w
some_verdict same = cc

end_more : (n : Net) (h : Held) (v : Verdict) → IsNetwork n → SoundSoFar n h → Keeps n h (EndItem v) → SoundSoFar n (held_with h (EndItem v))
end_more n h v valid sound keep = record {
  tables = sound.tables;
  nodes = sound.nodes;
  cuts = sound.cuts;
  few = sound.few;
  named = sound.named;
  verdict = λ w has. let same : v ≡ w = some_verdict has in subst (IsTrueOf n) same (end_true n h v valid sound keep);
}

pub item_more_law : ItemMoreLaw
item_more_law n h (HeadItem g) valid sound keep = head_more n h g sound
item_more_law n h (TableItem t) valid sound keep = table_more n h t sound keep
item_more_law n h (NodeItem x) valid sound keep = node_more n h x sound keep
item_more_law n h (SplitItem s) valid sound keep = split_more n h s (IsNetwork-HasEnds n valid) sound keep
item_more_law n h (EndItem v) valid sound keep = end_more n h v valid sound keep
