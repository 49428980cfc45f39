-- The lines of a search's own certificate are accepted.
use Rattle.std.proofs.Common.{◌<◌, ◌≤◌, ℕ, suc, ◌+◌, ◌/◌, max, List, [], ◌∷◌, ◌++◌, length, map, take, drop, get_or, Option, Some, None, Result, Ok, Err, arith, add-one}
use Rattle.std.specs.Prelude.{All, IfSome, IfOk}
use Rattle.std.proofs.lemmas.List.{get_or_default}
use Rattle.std.proofs.lemmas.List.Elements.{All-nil, All-cons, All-head, All-tail, All-append, All-take, All-drop, All-map, All-weaker}
use Rattle.std.proofs.lemmas.List.Sorted.{IsNonDecreasingBy-from_all_adjacent}
use Rattle.service_model.specs.declared.cert_rules.TheConstants.{SHAPE}
use Rattle.service_model.specs.declared.plan.Plan.{Plan}
use Rattle.service_model.specs.declared.table.Table.{Table}
use Rattle.service_model.specs.declared.cert.Node.{Node}
use Rattle.service_model.specs.declared.cert.Split.{Split}
use Rattle.service_model.specs.declared.cert.Cert.{Cert}
use Rattle.service_model.specs.declared.cert.Item.{Item}
use Rattle.service_model.specs.declared.cert.Item.TheVariants.{Head as HeadItem, Table as TableItem, Node as NodeItem, Split as SplitItem, End as EndItem}
use Rattle.service_model.specs.Net.{Net}
use Rattle.service_model.specs.Plans.{HasTimes}
use Rattle.service_model.specs.Networks.{IsNetwork}
use Rattle.service_model.specs.Items.{split_after, items_from, items_of}
use Rattle.service_model.specs.Held.{Held, none_held, held_with, no_node}
use Rattle.service_model.specs.Certs.{AllKeep}
use Rattle.bound_cert.specs.Seen.{SeesInTurn}
use Rattle.bound_cert.specs.Sizes.{HasFewTimes, IsSmallTable, IsSmallNode, HasFewNumbers}
use Rattle.bound_cert.specs.Laws.{IsShort}
use Rattle.bound_cert.proofs.SeenFacts.{kept_in_order, cert_seen}
use Rattle.bound_cert.proofs.ShortFacts.{short_law}
use Rattle.tree_order.specs.declared.forest.Forest.{Forest}
use Rattle.range_nodes.specs.Sizes.{IsShortTable, IsShortNode}
use Rattle.search_laws.specs.Own.{AreInTurn, IsOwn}
use Rattle.range_branch.specs.Sizes.{IsShortCert}
use Rattle.cert_check.specs.Bytes.{IsAcceptedBytes}
use Rattle.cert_check.proofs.WrittenFacts.{written_law}
use Rattle.cert_files.specs.Certificates.{cert_bytes}

-- ---- the nodes of a search have seen no fewer tables, one after another
seen_next : (f : Forest) (c : Cert) (k : ℕ) (d : Node) → k + 1 < length c.nodes → AreInTurn f c (suc k) → (get_or c.nodes k d).seen ≤ (get_or c.nodes (k + 1) d).seen
seen_next f c k d within turn =
    let here : k < length c.nodes = omega (arith, within) in
    let later = turn.later in
    rw (get_or_default c.nodes k d no_node here, get_or_default c.nodes (k + 1) d no_node within, add-one k) later

sees_in_turn : (n : Net) (f : Forest) (budget : ℕ) (c : Cert) → IsOwn n f budget c → SeesInTurn c
sees_in_turn n f budget c own = record {
  there = own.whole.seen;
  rising = IsNonDecreasingBy-from_all_adjacent (λ (x : Node). x.seen) c.nodes (λ k d within. seen_next f c k d within (own.turns (suc k) (omega (arith, within))));
}

-- ---- its items have few numbers
few_times : (n : Net) (plan : Option Plan) → IsNetwork n → IfSome plan (HasTimes n) → IfSome plan HasFewTimes
few_times n None valid times = tt
few_times n (Some p) valid times = (let stages = valid.few_stages in record { inbound = omega (arith, times.inbound, stages); outbound = omega (arith, times.outbound, stages) })

small_table : (n : Net) (t : Table) → IsNetwork n → IsShortTable n t → IsSmallTable t
small_table n t valid short =
    let stages = valid.few_stages in
    let horizon = valid.horizon in
    record { children = omega (arith, short.children, stages); values = omega (arith, short.values, horizon) }

small_node : (n : Net) (x : Node) → IsNetwork n → IsShortNode n x → IsSmallNode x
small_node n x valid short = (let stages = valid.few_stages in record { roots = omega (arith, short.roots, stages); relaxed = few_times n x.relaxed valid short.relaxed })

few_in_splits : (splits : List Split) → All HasFewNumbers (map SplitItem splits)
few_in_splits [] = All-nil HasFewNumbers
few_in_splits (s ∷ splits) = All-cons HasFewNumbers (SplitItem s) (map SplitItem splits) tt (few_in_splits splits)

few_from : (c : Cert) (k came : ℕ) (nodes : List Node) → All IsSmallTable c.tables → All IsSmallNode nodes → All HasFewNumbers (items_from c k came nodes)
few_from c k came [] tables small =
    All-append HasFewNumbers (map TableItem (drop came c.tables)) (map SplitItem (drop ((k + 1) / 2) c.splits))
    (All-map HasFewNumbers TableItem (drop came c.tables) (All-drop IsSmallTable came c.tables tables))
    (few_in_splits (drop ((k + 1) / 2) c.splits))
few_from c k came (x ∷ nodes) tables small =
    let before = drop came (take x.seen c.tables) in
    let splits = split_after c.splits k in
    let first = All-map HasFewNumbers TableItem before (All-drop IsSmallTable came (take x.seen c.tables) (All-take IsSmallTable x.seen c.tables tables)) in
    let node = All-cons HasFewNumbers (NodeItem x) (map SplitItem splits) (All-head IsSmallNode x nodes small) (few_in_splits splits) in
    All-append HasFewNumbers (map TableItem before ++ NodeItem x ∷ map SplitItem splits) (items_from c (k + 1) (max came x.seen) nodes)
    (All-append HasFewNumbers (map TableItem before) (NodeItem x ∷ map SplitItem splits) first node)
    (few_from c (k + 1) (max came x.seen) nodes tables (All-tail IsSmallNode x nodes small))

few_numbers : (n : Net) (c : Cert) → IsNetwork n → IsShortCert n c → All HasFewNumbers (items_of c)
few_numbers n c valid short =
    let tables = All-weaker (IsShortTable n) IsSmallTable (λ t here. small_table n t valid here) c.tables short.tables in
    let nodes = All-weaker (IsShortNode n) IsSmallNode (λ x here. small_node n x valid here) c.nodes short.nodes in
    let end = All-cons HasFewNumbers (EndItem c.verdict) [] (few_times n c.verdict.plan valid short.plan) (All-nil HasFewNumbers) in
    All-cons HasFewNumbers (HeadItem c.head) (items_from c 0 0 c.nodes ++ EndItem c.verdict ∷ []) tt
    (All-append HasFewNumbers (items_from c 0 0 c.nodes) (EndItem c.verdict ∷ []) (few_from c 0 0 c.nodes tables nodes) end)

all_short : (n : Net) (h : Held) (items : List Item) → AllKeep n h items → All HasFewNumbers items → All IsShort items
all_short n h [] keep few = All-nil IsShort
all_short n h (x ∷ items) keep few =
    All-cons IsShort x items (short_law x (keep.0 SHAPE) (All-head HasFewNumbers x items few))
    (all_short n (held_with h x) items keep.1 (All-tail HasFewNumbers x items few))

-- ---- its lines are accepted with its verdict
pub cert_accepted : (n : Net) (f : Forest) (budget : ℕ) (c : Cert) → IsNetwork n → IsOwn n f budget c → IsShortCert n c → IsAcceptedBytes n (cert_bytes c) c.verdict
unfolding cert_bytes
cert_accepted n f budget c valid own short =
    let ordered = kept_in_order n (items_of c) own.keep (cert_seen c (sees_in_turn n f budget c own)) in
    written_law n c own.keep ordered (all_short n none_held (items_of c) own.keep (few_numbers n c valid short))

-- a search gives one that is
pub search_accepted : {E : Type 0} (n : Net) (f : Forest) (budget : ℕ) (r : Result Cert E) → IsNetwork n → IfOk r (IsOwn n f budget) → IfOk r (IsShortCert n)
    → IfOk r (λ c. IsAcceptedBytes n (cert_bytes c) c.verdict)
search_accepted n f budget (Ok c) valid own short = cert_accepted n f budget c valid own short
search_accepted n f budget (Err e) valid own short = tt
