-- The items of a certificate that grows by a split and its two nodes.
use Rattle.std.proofs.Common.{◌≡◌, ◌<◌, ◌≤◌, ◌+◌, ◌*◌, ◌/◌, ◌%◌, ℕ, List, [], ◌∷◌, ◌++◌, length, refl, ap, sym, ◌∙◌, arith}
use Rattle.std.specs.List.{AllByRecursion}
use Rattle.std.specs.Prelude.{Bool, true, false, All, ◌==◌, max, map, take, drop, if◌then◌else◌}
use Rattle.std.proofs.lemmas.Bool.{eq-eqb, ne_eqb}
use Rattle.std.proofs.lemmas.List.{append_assoc, append-nil, take-append-le, take_at, take_all, drop_all, drop-append-le, drop_at, get_or_push, length-append, length_push, length-drop}
use Rattle.std.proofs.lemmas.List.Elements.{recursion_from_All, All-cons, All-nil, All-same, All-push}
use Rattle.service_model.specs.declared.table.Table.{Table}
use Rattle.service_model.specs.declared.cert.Node.{Node}
use Rattle.service_model.specs.declared.cert.Split.{Split}
use Rattle.service_model.specs.declared.cert.Cert.{Cert}
use Rattle.service_model.specs.declared.cert.Item.{Item}
use Rattle.service_model.specs.declared.cert.Item.TheVariants.{Head as HeadItem, Table as TableItem, Node as NodeItem, Split as SplitItem}
use Rattle.service_model.specs.Items.{split_after, items_from}
use Rattle.service_model.specs.Held.{node_at, no_node}
use Rattle.cert_laws.specs.Grown.{IsWhole, node_items, grown}
use Rattle.cert_laws.specs.ItemLaws.{FirstLaw, GrownLaw}

none_either : (b : Bool) → (if b then [] else []) ≡ (let none : List Split = [] in none)
none_either true = refl
none_either false = refl

-- behind the last split none is left
split_past : (splits : List Split) (k : ℕ) → 2 * length splits ≤ k → split_after splits k ≡ []
split_past splits k past =
    ap (λ (rest : List Split). if k % 2 == 0 then take 1 rest else []) (drop_all (k / 2) splits (omega (arith, past))) ∙ none_either (k % 2 == 0)

-- no split comes after an odd node
split_odd : (splits : List Split) (m : ℕ) → split_after splits (2 * m + 1) ≡ []
split_odd splits m =
    ap (λ (b : Bool). if b then take 1 (drop ((2 * m + 1) / 2) splits) else []) (ne_eqb ((2 * m + 1) % 2) 0 (λ is. omega (arith, is)))

-- a new split comes after the last node
split_new : (splits : List Split) (s : Split) → split_after (splits ++ s ∷ []) (2 * length splits) ≡ s ∷ []
split_new splits s =
    let m = length splits in
    let half : (2 * m) / 2 ≡ m = omega arith in
    ap (λ (b : Bool). if b then take 1 (drop ((2 * m) / 2) (splits ++ s ∷ [])) else []) (eq-eqb ((2 * m) % 2) 0 (omega arith))
    ∙ ap (λ (rest : List Split). take 1 rest) (drop_at splits (s ∷ []) ((2 * m) / 2) (sym half))

-- and the splits before it stay where they are
split_old : (splits : List Split) (s : Split) (k : ℕ) → k < 2 * length splits → split_after (splits ++ s ∷ []) k ≡ split_after splits k
split_old splits s k before =
    let rest = drop-append-le (k / 2) splits (s ∷ []) (omega (arith, before)) in
    let one = take-append-le 1 (drop (k / 2) splits) (s ∷ []) (omega (arith, before, length-drop (k / 2) splits)) in
    ap (λ (x : List Split). if k % 2 == 0 then x else []) (ap (λ (ys : List Split). take 1 ys) rest ∙ one)

-- what an end of a list of nodes leaves over, where all came
nothing_left : (c : Cert) (k came : ℕ) → length c.tables ≤ came → 2 * length c.splits ≤ k → items_from c (k + 1) came [] ≡ []
nothing_left c k came all past =
    ap (λ (ts : List Table). map TableItem ts ++ map SplitItem (drop ((k + 1 + 1) / 2) c.splits)) (drop_all came c.tables all)
    ∙ ap (λ (ss : List Split). map SplitItem ss) (drop_all ((k + 1 + 1) / 2) c.splits (omega (arith, past)))

-- the items of one node and the rest, by equal tables before it, splits behind it and rests
same_part : (ts us : List Table) (x : Node) (ss rs : List Split) (rest more : List Item) → ts ≡ us → ss ≡ rs → rest ≡ more
    → map TableItem ts ++ NodeItem x ∷ map SplitItem ss ++ rest ≡ map TableItem us ++ NodeItem x ∷ map SplitItem rs ++ more
same_part ts us x ss rs rest more t s r =
    ap (λ (zs : List Table). map TableItem zs ++ NodeItem x ∷ map SplitItem ss ++ rest) t
    ∙ ap (λ (zs : List Split). map TableItem us ++ NodeItem x ∷ map SplitItem zs ++ rest) s
    ∙ ap (λ (zs : List Item). map TableItem us ++ NodeItem x ∷ map SplitItem rs ++ zs) r

-- the items of the two new nodes
two_more : (c : Cert) (s : Split) (front back : List Table) (x y : Node) (k came : ℕ) → came ≡ length c.tables → k ≡ 2 * length c.splits
    → x.seen ≡ length c.tables + length front → y.seen ≡ length c.tables + length front + length back
    → items_from (grown c s front x back y) (k + 1) came (x ∷ y ∷ []) ≡ node_items front x ++ node_items back y
two_more c s front back x y k came all at first last =
    let d = grown c s front x back y in
    let m = length c.splits in
    let more : length d.splits ≡ m + 1 = length_push c.splits s in
    let long : length (c.tables ++ front) ≡ length c.tables + length front = length-append c.tables front in
    let longer : length d.tables ≡ length c.tables + length front + length back = length-append (c.tables ++ front) back ∙ ap (λ l. l + length back) long in
    let tables_x : drop came (take x.seen d.tables) ≡ front =
    ap (λ (ts : List Table). drop came ts) (take_at (c.tables ++ front) back x.seen (omega (arith, first, long))) ∙ drop_at c.tables front came (sym all) in
    let splits_x : split_after d.splits (k + 1) ≡ [] = ap (λ j. split_after d.splits (j + 1)) at ∙ split_odd d.splits m in
    let came_x : max came x.seen ≡ length (c.tables ++ front) = omega (arith, all, first, long) in
    let tables_y : drop (max came x.seen) (take y.seen d.tables) ≡ back =
    ap (λ (ts : List Table). drop (max came x.seen) ts) (take_all y.seen d.tables (omega (arith, last, longer)))
    ∙ drop_at (c.tables ++ front) back (max came x.seen) (sym came_x) in
    let splits_y : split_after d.splits (k + 1 + 1) ≡ [] = split_past d.splits (k + 1 + 1) (omega (arith, more, at)) in
    let end = nothing_left d (k + 1 + 1) (max (max came x.seen) y.seen) (omega (arith, last, longer)) (omega (arith, more, at)) in
    let second : items_from d (k + 1 + 1) (max came x.seen) (y ∷ []) ≡ node_items back y =
    same_part _ back y _ [] _ [] tables_y splits_y end ∙ append-nil (node_items back y) in
    same_part _ front x _ [] _ _ tables_x splits_x second

-- the items of the nodes from one on, of the certificate with a split more
grown_from : (c : Cert) (s : Split) (front back : List Table) (x y : Node) (nodes : List Node) (z : Node) (k came : ℕ)
    → k + length (z ∷ nodes) ≡ 2 * length c.splits + 1 → came ≤ length c.tables → AllByRecursion (λ w. w.seen ≤ length c.tables) (z ∷ nodes)
    → (node_at (z ∷ nodes) (length nodes)).seen ≡ length c.tables → x.seen ≡ length c.tables + length front
    → y.seen ≡ length c.tables + length front + length back
    → items_from (grown c s front x back y) k came ((z ∷ nodes) ++ x ∷ y ∷ [])
    ≡ items_from c k came (z ∷ nodes) ++ (SplitItem s ∷ (node_items front x ++ node_items back y))
grown_from c s front back x y [] z k came count few seen all first last =
    let d = grown c s front x back y in
    let at : k ≡ 2 * length c.splits = omega (arith, count) in
    let tables = ap (λ (ts : List Table). drop came ts)
    (ap (take z.seen) (append_assoc c.tables front back) ∙ take-append-le z.seen c.tables (front ++ back) seen.0) in
    let split : split_after d.splits k ≡ s ∷ [] = ap (λ j. split_after d.splits j) at ∙ split_new c.splits s in
    let old : split_after c.splits k ≡ [] = split_past c.splits k (omega (arith, at)) in
    let more = two_more c s front back x y k (max came z.seen) (omega (arith, few, all)) at first last in
    let left = same_part _ (drop came (take z.seen c.tables)) z _ (s ∷ []) _ _ tables split more in
    let right = same_part (drop came (take z.seen c.tables)) _ z _ [] _ [] refl old (nothing_left c k (max came z.seen) (omega (arith, few, all)) (omega (arith, at))) in
    let came_items = map TableItem (drop came (take z.seen c.tables)) in
    let new = node_items front x ++ node_items back y in
    let alone : items_from c k came (z ∷ []) ≡ came_items ++ NodeItem z ∷ [] = right ∙ append-nil (came_items ++ NodeItem z ∷ []) in
    let joined = append_assoc came_items (NodeItem z ∷ SplitItem s ∷ []) new ∙ sym (append_assoc came_items (NodeItem z ∷ []) (SplitItem s ∷ new)) in
    left ∙ joined ∙ ap (λ (front : List Item). front ++ SplitItem s ∷ new) (sym alone)
grown_from c s front back x y (w ∷ nodes) z k came count few seen all first last =
    let tables = ap (λ (ts : List Table). drop came ts)
    (ap (take z.seen) (append_assoc c.tables front back) ∙ take-append-le z.seen c.tables (front ++ back) seen.0) in
    let before : k < 2 * length c.splits = omega (arith, count) in
    let more = grown_from c s front back x y nodes w (k + 1) (max came z.seen) (omega (arith, count)) (omega (arith, few, seen.0)) seen.1 all first last in
    let part = same_part _ (drop came (take z.seen c.tables)) z _ (split_after c.splits k) _ _ tables (split_old c.splits s k before) more in
    part ∙ sym (append_assoc (map TableItem (drop came (take z.seen c.tables)) ++ NodeItem z ∷ map SplitItem (split_after c.splits k))
    (items_from c (k + 1) (max came z.seen) (w ∷ nodes)) _)

grown_items : (c : Cert) (s : Split) (front back : List Table) (x y : Node) (nodes : List Node) → length nodes ≡ 2 * length c.splits + 1
    → AllByRecursion (λ w. w.seen ≤ length c.tables) nodes → (node_at nodes (2 * length c.splits)).seen ≡ length c.tables
    → x.seen ≡ length c.tables + length front → y.seen ≡ length c.tables + length front + length back
    → items_from (grown c s front x back y) 0 0 ((nodes ++ x ∷ []) ++ y ∷ []) ≡ items_from c 0 0 nodes ++ (SplitItem s ∷ (node_items front x ++ node_items back y))
grown_items c s front back x y [] count seen all first last = absurd (omega (arith, count))
grown_items c s front back x y (z ∷ nodes) count seen all first last =
    let at : length nodes ≡ 2 * length c.splits = omega (arith, count) in
    let end = ap (λ k. (node_at (z ∷ nodes) k).seen) at ∙ all in
    ap (items_from (grown c s front x back y) 0 0) (append_assoc (z ∷ nodes) (x ∷ []) (y ∷ []))
    ∙ grown_from c s front back x y nodes z 0 0 (omega (arith, count)) (omega arith) seen end first last

pub grown_law : GrownLaw
grown_law c s front back x y whole first last =
    let d = grown c s front x back y in
    let tables : length d.tables ≡ length c.tables + length front + length back =
    length-append (c.tables ++ front) back ∙ ap (λ l. l + length back) (length-append c.tables front) in
    let few = λ (w : Node). w.seen ≤ length d.tables in
    let old : All few c.nodes = λ k e within. let few = whole.seen k e within in omega (arith, few, tables) in
    let seen = All-push few (c.nodes ++ x ∷ []) y (All-push few c.nodes x old (omega (arith, first, tables))) (omega (arith, last, tables)) in
    let nodes : length d.nodes ≡ length c.nodes + 2 = omega (arith, length_push c.nodes x, length_push (c.nodes ++ x ∷ []) y) in
    let splits : length d.splits ≡ length c.splits + 1 = length_push c.splits s in
    let is_last = get_or_push (c.nodes ++ x ∷ []) y no_node (2 * length d.splits) (omega (arith, length_push c.nodes x, splits, whole.nodes)) in
    let grown_is : IsWhole d = record {
      nodes = omega (arith, nodes, splits, whole.nodes);
      seen = seen;
      last = ap (λ (w : Node). w.seen) is_last ∙ last ∙ sym tables;
    } in
    let items = grown_items c s front back x y c.nodes whole.nodes (recursion_from_All _ c.nodes whole.seen) whole.last first last in
    (grown_is, ap (λ (is : List Item). HeadItem c.head ∷ is) items)

pub first_law : FirstLaw
first_law c x one none all =
    let node : node_at c.nodes 0 ≡ x = ap (λ (xs : List Node). node_at xs 0) one in
    let splits : length c.splits ≡ 0 = ap (λ (ss : List Split). length ss) none in
    let few = λ (w : Node). w.seen ≤ length c.tables in
    let whole : IsWhole c = record {
      nodes = ap (λ (xs : List Node). length xs) one ∙ ap (λ k. 2 * k + 1) (sym splits);
      seen = All-same few c.nodes (x ∷ []) one (All-cons few x [] (omega (arith, all)) (All-nil few));
      last = ap (λ k. (node_at c.nodes (2 * k)).seen) splits ∙ ap (λ (w : Node). w.seen) node ∙ all;
    } in
    let after = split_past c.splits 0 (omega (arith, splits)) in
    let end = nothing_left c 0 (max 0 x.seen) (omega (arith, all)) (omega (arith, splits)) in
    let tables = take_all x.seen c.tables (omega (arith, all)) in
    let items : items_from c 0 0 (x ∷ []) ≡ node_items c.tables x = same_part _ c.tables x _ [] _ [] tables after end ∙ append-nil (node_items c.tables x) in
    (whole, ap (λ (xs : List Node). HeadItem c.head ∷ items_from c 0 0 xs) one ∙ ap (λ (is : List Item). HeadItem c.head ∷ is) items)
