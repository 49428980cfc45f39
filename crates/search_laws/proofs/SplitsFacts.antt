-- The splits among items on which the rules hold: each halves an interval, by an arc that a relaxed plan breaks.
use Rattle.std.proofs.Common.{◌≡◌, ◌≢◌, ℕ, ◌+◌, ◌*◌, ◌-◌, ◌<◌, ◌≤◌, List, [], ◌∷◌, ◌++◌, length, get_or, map, Some, refl, sym, ap, ◌∙◌, subst, arith}
use Rattle.std.specs.Prelude.{All, unwrap_or}
use Rattle.std.specs.List.{AllByRecursion}
use Rattle.std.proofs.lemmas.Bool.{ltb-false, leb-false}
use Rattle.std.proofs.lemmas.List.{length-append, length-map, length_push, map_push, get_or_append_left}
use Rattle.std.proofs.lemmas.List.Elements.{All-push, recursion_from_All}
use Rattle.service_model.specs.declared.cert_rules.TheConstants.{SHAPE, PLACE, SPLIT_NODE, SPLIT_PLAN, SPLIT_ARC}
use Rattle.service_model.specs.declared.plan.Plan.{Plan}
use Rattle.service_model.specs.declared.cert.Node.{Node}
use Rattle.service_model.specs.declared.cert.Split.{Split}
use Rattle.service_model.specs.declared.cert.Item.{Item}
use Rattle.service_model.specs.declared.cert.Item.TheVariants.{Head as HeadItem, Table as TableItem, Node as NodeItem, Split as SplitItem, End as EndItem}
use Rattle.service_model.specs.Net.{Net}
use Rattle.service_model.specs.Plans.{inbound_at, outbound_at}
use Rattle.service_model.specs.Networks.{IsNetwork}
use Rattle.service_model.specs.Tables.{Supplies, transit_in}
use Rattle.service_model.specs.CertRanges.{Cut}
use Rattle.service_model.specs.Held.{Held, none_held, held_with, held_after, no_node, node_at, no_plan, relaxed_at, cut_by, cuts_of}
use Rattle.service_model.specs.CertRules.{Rule}
use Rattle.service_model.specs.Earned.{IsRelaxedAt, BreaksArc}
use Rattle.range_splits.proofs.CutFacts.{cut_law}
use Rattle.search_laws.specs.Own.{AllHold}
use Rattle.search_laws.proofs.HalvingFacts.{IsHalving, Each, each_more, cuts_of_each}

-- the node's relaxed plan breaks the arc that the split names
pub record IsBroken (n : Net) (x : Node) (s : Split) : Type 0 where
  pub plan : Plan
  pub there : x.relaxed ≡ Some plan
  pub arc : Supplies n.arcs s.supplier s.customer
  pub broken : inbound_at plan s.customer < outbound_at plan s.supplier + transit_in n.arcs s.supplier s.customer

-- the split names a node that came, whose relaxed plan breaks its arc
abbrev pub Names : Net → List Node → Split → Type 0
Names n nodes s = (s.node < length nodes) × IsBroken n (node_at nodes s.node) s

-- what is known of the splits that came
pub record HaveHalved (n : Net) (h : Held) : Type 0 where
  pub few : length h.nodes ≤ 2 * length h.splits + 1
  pub named : All (Names n h.nodes) h.splits
  pub cuts : Each (IsHalving n) (cuts_of n h)

none_halved : (n : Net) → HaveHalved n none_held
none_halved n = record {
  few = omega arith;
  named = λ k d within. absurd (omega arith);
  cuts = λ k within. absurd (omega arith);
}

-- ---- a node
-- more nodes leave what a split names
names_stay : (n : Net) (nodes more : List Node) (s : Split) → Names n nodes s → Names n (nodes ++ more) s
names_stay n nodes more s named = (
  let low = named.0 in omega (arith, low, length-append nodes more),
  subst (λ (x : Node). IsBroken n x s) (sym (get_or_append_left nodes more no_node s.node named.0)) named.1,
)

cuts_stay_by : (n : Net) (nodes more : List Node) (splits : List Split) → AllByRecursion (Names n nodes) splits
    → map (cut_by n (nodes ++ more)) splits ≡ map (cut_by n nodes) splits
cuts_stay_by n nodes more [] named = refl
cuts_stay_by n nodes more (s ∷ splits) named =
    let same : node_at (nodes ++ more) s.node ≡ node_at nodes s.node = get_or_append_left nodes more no_node s.node named.0.0 in
    let plan : relaxed_at (nodes ++ more) s.node ≡ relaxed_at nodes s.node = ap (λ (x : Node). unwrap_or x.relaxed no_plan) same in
    let first : cut_by n (nodes ++ more) s ≡ cut_by n nodes s =
    ap (λ (p : Plan). (let c : Cut = record { node = s.node; stage = s.supplier; last = inbound_at p s.customer - transit_in n.arcs s.supplier s.customer } in c)) plan in
    ap (λ (c : Cut). c ∷ map (cut_by n (nodes ++ more)) splits) first ∙ ap (λ (cs : List Cut). cut_by n nodes s ∷ cs) (cuts_stay_by n nodes more splits named.1)

-- and the cuts
cuts_stay : (n : Net) (nodes more : List Node) (splits : List Split) → All (Names n nodes) splits
    → map (cut_by n (nodes ++ more)) splits ≡ map (cut_by n nodes) splits
cuts_stay n nodes more splits named = cuts_stay_by n nodes more splits (recursion_from_All (Names n nodes) splits named)

place_other : PLACE ≢ SHAPE
place_other is = omega (arith, is)

node_more : (n : Net) (h : Held) (x : Node) → HaveHalved n h → Rule n h (NodeItem x) PLACE → HaveHalved n (held_with h (NodeItem x))
node_more n h x halved place = record {
  few =
      let room = ltb-false (2 * length h.splits) (length h.nodes) place in
      omega (arith, room, length_push h.nodes x);
  named = λ k d within. names_stay n h.nodes (x ∷ []) (get_or h.splits k d) (halved.named k d within);
  cuts = subst (Each (IsHalving n)) (sym (cuts_stay n h.nodes (x ∷ []) h.splits halved.named)) halved.cuts;
}

-- ---- a split
is_broken : (n : Net) (h : Held) (s : Split) → IsRelaxedAt n h s.node → BreaksArc n h s → IsBroken n (node_at h.nodes s.node) s
is_broken n h s relaxed breaks =
    let plan : relaxed_at h.nodes s.node ≡ relaxed.plan = ap (λ o. unwrap_or o no_plan) relaxed.there in
    record {
      plan = relaxed.plan;
      there = relaxed.there;
      arc = breaks.arc;
      broken = subst (λ (p : Plan). inbound_at p s.customer < outbound_at p s.supplier + transit_in n.arcs s.supplier s.customer) plan breaks.broken;
    }

split_more : (n : Net) (h : Held) (s : Split) → IsNetwork n → HaveHalved n h → ((rule : ℕ) → rule ≢ SHAPE → Rule n h (SplitItem s) rule)
    → HaveHalved n (held_with h (SplitItem s))
split_more n h s valid halved hold =
    let all = leb-false (length h.nodes) (2 * length h.splits) (hold PLACE place_other) in
    let next = hold SPLIT_NODE (λ is. omega (arith, is)) in
    let relaxed = hold SPLIT_PLAN (λ is. omega (arith, is)) in
    let breaks = hold SPLIT_ARC (λ is. omega (arith, is)) in
    let cut = cut_law n h s valid (cuts_of_each n (cuts_of n h) halved.cuts) next relaxed breaks in
    let same : cuts_of n (held_with h (SplitItem s)) ≡ cuts_of n h ++ cut_by n h.nodes s ∷ [] = map_push (cut_by n h.nodes) h.splits s in
    let long = length-map h.splits (cut_by n h.nodes) in
    record {
      few = let few = halved.few in omega (arith, few, length_push h.splits s);
      named = All-push (Names n h.nodes) h.splits s halved.named
          (let low = next.leaf.there in omega (arith, low, long, all), is_broken n h s relaxed breaks);
      cuts = subst (Each (IsHalving n)) (sym same)
          (each_more (IsHalving n) (cuts_of n h) (cut_by n h.nodes s) halved.cuts (record { cut = cut.0; next = cut.2 }));
    }

-- ---- all items
item_more : (n : Net) (h : Held) (x : Item) → IsNetwork n → HaveHalved n h → ((rule : ℕ) → rule ≢ SHAPE → Rule n h x rule) → HaveHalved n (held_with h x)
item_more n h (HeadItem g) valid halved hold = record { few = halved.few; named = halved.named; cuts = halved.cuts }
item_more n h (TableItem t) valid halved hold = record { few = halved.few; named = halved.named; cuts = halved.cuts }
item_more n h (NodeItem x) valid halved hold = node_more n h x halved (hold PLACE place_other)
item_more n h (SplitItem s) valid halved hold = split_more n h s valid halved hold
item_more n h (EndItem v) valid halved hold = record { few = halved.few; named = halved.named; cuts = halved.cuts }

items_more : (n : Net) (h : Held) (items : List Item) → IsNetwork n → HaveHalved n h → AllHold n h items → HaveHalved n (held_after h items)
items_more n h [] valid halved hold = halved
items_more n h (x ∷ items) valid halved hold = items_more n (held_with h x) items valid (item_more n h x valid halved hold.0) hold.1

-- the splits among items on which the rules hold
pub have_halved : (n : Net) (items : List Item) → IsNetwork n → AllHold n none_held items → HaveHalved n (held_after none_held items)
have_halved n items valid hold = items_more n none_held items valid (none_halved n) hold
