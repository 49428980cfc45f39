-- What an explanation looks up of items on which no rule fails is there.
use Rattle.std.proofs.Common.{◌≡◌, ℕ, ◌<◌, List, [], ◌∷◌, ◌++◌, length, Option, Some, None, refl, sym, ap, subst, arith}
use Rattle.std.specs.Prelude.{All, IfSome, IsSome, unwrap_or, is_some}
use Rattle.std.proofs.lemmas.List.{get_or_append_left, get_or_push, length_push}
use Rattle.std.proofs.lemmas.List.Elements.{All-push}
use Rattle.service_model.specs.declared.cert_rules.TheConstants.{RELAXED, SPLIT_PLAN, SPLIT_ARC}
use Rattle.service_model.specs.declared.plan.Plan.{Plan}
use Rattle.service_model.specs.declared.stage.SupplyArc.{SupplyArc}
use Rattle.service_model.specs.declared.cert.Node.{Node}
use Rattle.service_model.specs.declared.cert.Split.{Split}
use Rattle.service_model.specs.declared.cert.Item.{Item}
use Rattle.service_model.specs.declared.cert.Item.TheVariants.{Head as HeadItem, Table as TableItem, Node as NodeItem, Split as SplitItem, End as EndItem}
use Rattle.service_model.specs.Net.{Net, no_arc}
use Rattle.service_model.specs.Plans.{HasTimes}
use Rattle.service_model.specs.Networks.{IsNetwork}
use Rattle.service_model.specs.Customers.{HasEnds}
use Rattle.service_model.specs.Tables.{Supplies}
use Rattle.service_model.specs.Held.{Held, none_held, held_with, held_after, no_node, no_plan, node_at}
use Rattle.service_model.specs.CertRules.{Keeps}
use Rattle.service_model.specs.Certs.{AllKeep}
use Rattle.service_model.proofs.NetworkFacts.{IsNetwork-HasEnds}
use Rattle.service_model.proofs.ArcFacts.{leads_from_supplies}
use Rattle.cert_laws.specs.SoFar.{SoundSoFar}
use Rattle.cert_laws.proofs.ItemFacts.{item_more_law}
use Rattle.cert_laws.proofs.CheckFacts.{none_sound}
use Rattle.stock_report.specs.Explanations.{IsExplainedSplit}

-- relaxed plans have times, and splits can be explained
pub record IsTold (n : Net) (h : Held) : Type 0 where
  pub times : All (λ x. IfSome x.relaxed (HasTimes n)) h.nodes
  pub splits : All (IsExplainedSplit n h.nodes) h.splits

-- one node more leaves what a split names
with_node : (n : Net) (nodes : List Node) (x : Node) (s : Split) → IsExplainedSplit n nodes s → IsExplainedSplit n (nodes ++ x ∷ []) s
with_node n nodes x s told =
    let same = get_or_append_left nodes (x ∷ []) no_node s.node told.node in
    record {
      node = omega (arith, told.node, length_push nodes x);
      supplier = told.supplier;
      customer = told.customer;
      relaxed = subst (λ (y : Node). IsSome y.relaxed) (sym same) told.relaxed;
      times = subst (λ (y : Node). HasTimes n (unwrap_or y.relaxed no_plan)) (sym same) told.times;
    }

plan_times : (n : Net) (o : Option Plan) (p : Plan) → o ≡ Some p → IfSome o (HasTimes n) → HasTimes n (unwrap_or o no_plan)
plan_times n None p is times = cc
plan_times n (Some q) p is times = times

-- the ends of an arc are stages
ends_there : (stages : ℕ) (arcs : List SupplyArc) (i j : ℕ) → HasEnds stages arcs → Supplies arcs i j → (i < stages) × (j < stages)
ends_there stages arcs i j ends supplies =
    let (a, within, from, to) = leads_from_supplies arcs i j supplies in
    let there = ends a no_arc within in
    (omega (arith, there.0, from), omega (arith, there.1, to))

new_split : (n : Net) (h : Held) (s : Split) → HasEnds (length n.stages) n.arcs → All (λ x. IfSome x.relaxed (HasTimes n)) h.nodes → s.node < length h.nodes → Keeps n h (SplitItem s)
    → IsExplainedSplit n h.nodes s
new_split n h s ends times within keep =
    let relaxed = keep SPLIT_PLAN in
    let arc = ends_there (length n.stages) n.arcs s.supplier s.customer ends (keep SPLIT_ARC).arc in
    record {
      node = within;
      supplier = arc.0;
      customer = arc.1;
      relaxed = ap is_some relaxed.there;
      times = plan_times n (node_at h.nodes s.node).relaxed relaxed.plan relaxed.there (times s.node no_node within);
    }

item_told : (n : Net) (h : Held) (x : Item) → IsNetwork n → SoundSoFar n (held_with h x) → Keeps n h x → IsTold n h → IsTold n (held_with h x)
item_told n h (HeadItem g) valid sound keep told = record { times = told.times; splits = told.splits }
item_told n h (TableItem t) valid sound keep told = record { times = told.times; splits = told.splits }
item_told n h (NodeItem x) valid sound keep told = record {
  times = All-push (λ y. IfSome y.relaxed (HasTimes n)) h.nodes x told.times (keep RELAXED);
  splits = λ k d within. with_node n h.nodes x _ (told.splits k d within);
}
item_told n h (SplitItem s) valid sound keep told =
    let named = sound.named (length h.splits) s (omega (arith, length_push h.splits s)) in
    let within = subst (λ (t : Split). t.node < length h.nodes) (get_or_push h.splits s s (length h.splits) refl) named in
    record {
      times = told.times;
      splits = All-push (IsExplainedSplit n h.nodes) h.splits s told.splits (new_split n h s (IsNetwork-HasEnds n valid) told.times within keep);
    }
item_told n h (EndItem v) valid sound keep told = record { times = told.times; splits = told.splits }

-- what came without a broken rule is sound, and can be told
items_told : (n : Net) (h : Held) (items : List Item) → IsNetwork n → SoundSoFar n h → IsTold n h → AllKeep n h items
    → SoundSoFar n (held_after h items) × IsTold n (held_after h items)
items_told n h [] valid sound told keep = (sound, told)
items_told n h (x ∷ items) valid sound told keep =
    let more = item_more_law n h x valid sound keep.0 in
    items_told n (held_with h x) items valid more (item_told n h x valid more keep.0 told) keep.1

none_told : (n : Net) → IsTold n none_held
none_told n = record { times = λ k d within. absurd (omega arith); splits = λ k d within. absurd (omega arith) }

pub all_told : (n : Net) (items : List Item) → IsNetwork n → AllKeep n none_held items → SoundSoFar n (held_after none_held items) × IsTold n (held_after none_held items)
all_told n items valid keep = items_told n none_held items valid (none_sound n) (none_told n) keep
