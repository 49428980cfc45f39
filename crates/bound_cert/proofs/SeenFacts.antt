-- How many tables nodes have seen, item by item.
use Rattle.std.proofs.Common.{◌≡◌, ℕ, suc, ◌+◌, ◌<◌, ◌≤◌, max, List, [], ◌∷◌, ◌++◌, length, map, take, drop, get_or, ◌/◌, All, refl, sym, ap, ◌∙◌, subst, arith, length-append, append_assoc}
use Rattle.std.specs.List.Sorted.{IsNonDecreasingBy}
use Rattle.std.proofs.lemmas.List.{length-take-le, length-drop}
use Rattle.std.proofs.lemmas.List.Elements.{filter_map-append}
use Rattle.service_model.specs.declared.cert_rules.TheConstants.{SHAPE, HEAD, AFTER_END, PLACE}
use Rattle.service_model.specs.declared.table.Table.{Table}
use Rattle.service_model.specs.declared.cert.Node.{Node}
use Rattle.service_model.specs.declared.cert.Split.{Split}
use Rattle.service_model.specs.declared.cert.Cert.{Cert}
use Rattle.service_model.specs.declared.cert.Item.{Item}
use Rattle.service_model.specs.declared.cert.Item.TheVariants.{Head as HeadItem, Table as TableItem, Node as NodeItem, Split as SplitItem, End as EndItem}
use Rattle.service_model.specs.Net.{Net}
use Rattle.service_model.specs.Items.{table_of, tables_in, split_after, items_from, items_of}
use Rattle.service_model.specs.Held.{Held, none_held, held_with}
use Rattle.service_model.specs.Certs.{AllKeep}
use Rattle.bound_cert.specs.Order.{HasSeen, AllInOrder}
use Rattle.bound_cert.specs.Seen.{HaveSeen}
use Rattle.bound_cert.specs.Stream.{start, reads}
use Rattle.bound_cert.specs.Laws.{KeptInOrder, CertSeen, SeenLaw}
use Rattle.bound_cert.proofs.OrderFacts.{starts, read_in_order, whole_in_order}

-- how many tables came after an item
abbrev pub seen_after : ℕ → Item → ℕ
seen_after seen x = seen + length (tables_in (x ∷ []))

-- each node has seen the tables before it, where so many came before the first item
abbrev pub AllSeen : ℕ → List Item → Type 0
AllSeen seen [] = Unit {0}
AllSeen seen (x ∷ items) = HasSeen seen x × AllSeen (seen_after seen x) items

tables_first : (y : Item) (items : List Item) → length (tables_in (y ∷ items)) ≡ length (tables_in (y ∷ [])) + length (tables_in items)
tables_first y items = ap length (filter_map-append table_of (y ∷ []) items) ∙ length-append (tables_in (y ∷ [])) (tables_in items)

node_seen : (seen : ℕ) (items front rest : List Item) (x : Node) → AllSeen seen items → items ≡ front ++ NodeItem x ∷ rest
    → x.seen ≡ seen + length (tables_in front)
node_seen seen items [] rest x all same =
    let here = subst (AllSeen seen) same all in
    omega (arith, here.0)
node_seen seen items (y ∷ front) rest x all same =
    let here = subst (AllSeen seen) same all in
    let later = node_seen (seen_after seen y) (front ++ NodeItem x ∷ rest) front rest x here.1 refl in
    omega (arith, later, tables_first y front)

pub have_seen : (items : List Item) → AllSeen 0 items → HaveSeen items
have_seen items all front rest x same = let seen = node_seen 0 items front rest x all same in omega (arith, seen)

item_seen : (front rest : List Item) (y : Item) → HaveSeen (front ++ y ∷ rest) → HasSeen (length (tables_in front)) y
item_seen front rest (HeadItem h) seen = tt
item_seen front rest (TableItem t) seen = tt
item_seen front rest (NodeItem x) seen = seen front rest x refl
item_seen front rest (SplitItem s) seen = tt
item_seen front rest (EndItem v) seen = tt

all_seen_behind : (front items : List Item) → HaveSeen (front ++ items) → AllSeen (length (tables_in front)) items
all_seen_behind front [] seen = tt
all_seen_behind front (y ∷ items) seen =
    let more : length (tables_in (front ++ y ∷ [])) ≡ seen_after (length (tables_in front)) y =
    ap length (filter_map-append table_of front (y ∷ [])) ∙ length-append (tables_in front) (tables_in (y ∷ [])) in
    let later = all_seen_behind (front ++ y ∷ []) items (subst HaveSeen (sym (append_assoc front (y ∷ []) items)) seen) in
    (item_seen front items y seen, subst (λ (k : ℕ). AllSeen k items) more later)

pub all_seen : (items : List Item) → HaveSeen items → AllSeen 0 items
all_seen items seen = all_seen_behind [] items seen

-- ---- items in order
held_more : (h : Held) (x : Item) → length (held_with h x).tables ≡ seen_after (length h.tables) x
held_more h (HeadItem g) = omega arith
held_more h (TableItem t) = length-append h.tables (t ∷ [])
held_more h (NodeItem x) = omega arith
held_more h (SplitItem s) = omega arith
held_more h (EndItem v) = omega arith

order_seen : (h : Held) (items : List Item) → AllInOrder h items → AllSeen (length h.tables) items
order_seen h [] order = tt
order_seen h (x ∷ items) (here, later) =
    (here.seen, subst (λ (k : ℕ). AllSeen k items) (held_more h x) (order_seen (held_with h x) items later))

pub seen_in_order : (items : List Item) → AllInOrder none_held items → HaveSeen items
seen_in_order items order = have_seen items (order_seen none_held items order)

kept_order : (n : Net) (h : Held) (items : List Item) → AllKeep n h items → AllSeen (length h.tables) items → AllInOrder h items
kept_order n h [] keep seen = tt
kept_order n h (x ∷ items) keep seen = (
  record { shape = keep.0 SHAPE; head = keep.0 HEAD; not_ended = keep.0 AFTER_END; placed = keep.0 PLACE; seen = seen.0 },
  kept_order n (held_with h x) items keep.1 (subst (λ (k : ℕ). AllSeen k items) (sym (held_more h x)) seen.1),
)

pub kept_in_order : KeptInOrder
kept_in_order n items keep seen = kept_order n none_held items keep (all_seen items seen)

-- ---- the items of a certificate
AllSeen-append : (seen : ℕ) (xs ys : List Item) → AllSeen seen xs → AllSeen (seen + length (tables_in xs)) ys → AllSeen seen (xs ++ ys)
AllSeen-append seen [] ys first later = let same : seen + 0 ≡ seen = omega arith in subst (λ (k : ℕ). AllSeen k ys) same later
AllSeen-append seen (x ∷ xs) ys first later =
    let same : seen + length (tables_in (x ∷ xs)) ≡ seen_after seen x + length (tables_in xs) = omega (arith, tables_first x xs) in
    (first.0, AllSeen-append (seen_after seen x) xs ys first.1 (subst (λ (k : ℕ). AllSeen k ys) same later))

seen_tables : (seen : ℕ) (ts : List Table) → AllSeen seen (map TableItem ts)
seen_tables seen [] = tt
seen_tables seen (t ∷ ts) = (tt, seen_tables (seen + 1) ts)

seen_splits : (seen : ℕ) (ss : List Split) → AllSeen seen (map SplitItem ss)
seen_splits seen [] = tt
seen_splits seen (s ∷ ss) = (tt, seen_splits (seen + 0) ss)

count_tables : (ts : List Table) → length (tables_in (map TableItem ts)) ≡ length ts
count_tables [] = refl
count_tables (t ∷ ts) = omega (arith, count_tables ts)

no_tables : (ss : List Split) → length (tables_in (map SplitItem ss)) ≡ 0
no_tables [] = refl
no_tables (s ∷ ss) = no_tables ss

-- the nodes have seen at least so many tables, one after another no fewer, and at most so many
abbrev InTurn : ℕ → ℕ → List Node → Type 0
InTurn came total [] = Unit {0}
InTurn came total (x ∷ nodes) = (came ≤ x.seen) × (x.seen ≤ total) × InTurn x.seen total nodes

in_turn : (came total : ℕ) (nodes : List Node) → ((d : Node) → 0 < length nodes → came ≤ (get_or nodes 0 d).seen) → All (λ x. x.seen ≤ total) nodes
    → IsNonDecreasingBy (λ x. x.seen) nodes → InTurn came total nodes
in_turn came total [] first there rising = tt
in_turn came total (x ∷ nodes) first there rising = (
  first x (omega arith),
  there 0 x (omega arith),
  in_turn x.seen total nodes (λ d some. rising 0 1 d (omega arith) (omega arith)) (λ k d inside. there (suc k) d (omega arith))
      (λ i j d le inside. rising (suc i) (suc j) d (omega arith) (omega arith)),
)

-- the tables that a node has seen and no node before it
new_tables : (came seen : ℕ) (tables : List Table) → came ≤ seen → seen ≤ length tables
    → came + length (tables_in (map TableItem (drop came (take seen tables)))) ≡ seen
new_tables came seen tables rises there =
    omega (arith, count_tables (drop came (take seen tables)), length-drop came (take seen tables), length-take-le seen tables there)

seen_through : (c : Cert) (nodes : List Node) (k came : ℕ) → InTurn came (length c.tables) nodes → AllSeen came (items_from c k came nodes)
seen_through c [] k came turn =
    AllSeen-append came (map TableItem (drop came c.tables)) (map SplitItem (drop ((k + 1) / 2) c.splits)) (seen_tables came _) (seen_splits _ _)
seen_through c (x ∷ nodes) k came (rises, there, later) =
    let tables = map TableItem (drop came (take x.seen c.tables)) in
    let splits = map SplitItem (split_after c.splits k) in
    let here = new_tables came x.seen c.tables rises there in
    let node : AllSeen x.seen (NodeItem x ∷ splits) = (refl, seen_splits (x.seen + 0) (split_after c.splits k)) in
    let first = AllSeen-append came tables (NodeItem x ∷ splits) (seen_tables came _) (subst (λ (m : ℕ). AllSeen m (NodeItem x ∷ splits)) (sym here) node) in
    let longer : length (tables_in (tables ++ NodeItem x ∷ splits)) ≡ length (tables_in tables) + 0 =
    ap length (filter_map-append table_of tables (NodeItem x ∷ splits)) ∙ length-append (tables_in tables) (tables_in splits)
    ∙ ap (λ m. length (tables_in tables) + m) (no_tables (split_after c.splits k)) in
    let most : max came x.seen ≡ x.seen = grind arith in
    let all : came + length (tables_in (tables ++ NodeItem x ∷ splits)) ≡ max came x.seen = omega (arith, here, longer, most) in
    let rest = seen_through c nodes (k + 1) (max came x.seen) (subst (λ m. InTurn m (length c.tables) nodes) (sym most) later) in
    AllSeen-append came (tables ++ NodeItem x ∷ splits) (items_from c (k + 1) (max came x.seen) nodes) first
    (subst (λ m. AllSeen m (items_from c (k + 1) (max came x.seen) nodes)) (sym all) rest)

pub cert_seen : CertSeen
cert_seen c turn =
    let nodes = seen_through c c.nodes 0 0 (in_turn 0 (length c.tables) c.nodes (λ d some. omega arith) turn.there turn.rising) in
    have_seen (items_of c) (tt, AllSeen-append 0 (items_from c 0 0 c.nodes) (EndItem c.verdict ∷ []) nodes (tt, tt))

pub seen_law : SeenLaw
seen_law bytes = (seen_in_order (reads bytes start).0 (read_in_order bytes none_held start starts).0, seen_in_order _ (whole_in_order bytes))
