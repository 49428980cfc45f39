-- The parts gathered of items, and the room for them.
use Rattle.std.proofs.Common.{◌≡◌, ℕ, ◌+◌, ◌≤◌, List, [], ◌∷◌, ◌++◌, length, Option, Some, None, option_map, true, false, refl, ap, ◌∙◌, arith, append_assoc, append-nil, length-append}
use Rattle.std.specs.List.{filter_map, cons_option}
use Rattle.std.proofs.lemmas.List.Elements.{filter_map-append}
use Rattle.service_model.specs.declared.table.Table.{Table}
use Rattle.service_model.specs.declared.cert.Head.{Head}
use Rattle.service_model.specs.declared.cert.Node.{Node}
use Rattle.service_model.specs.declared.cert.Split.{Split}
use Rattle.service_model.specs.declared.cert.Verdict.{Verdict}
use Rattle.service_model.specs.declared.cert.Cert.{Cert}
use Rattle.service_model.specs.declared.cert.Item.{Item}
use Rattle.service_model.specs.declared.cert.Item.TheVariants.{Head as HeadItem, Table as TableItem, Node as NodeItem, Split as SplitItem, End as EndItem}
use Rattle.service_model.specs.declared.parts.Parts.{Parts}
use Rattle.service_model.specs.Items.{table_of, node_of, split_of, tables_in, nodes_in, splits_in, verdict_of, cert_of}
use Rattle.service_model.specs.Parts.{Gathered, none_gathered, with_item, with_items, cert_by, HasRoom, HasRoomOf}

cons_fewer : {Y : Type 0} (o : Option Y) (ys : List Y) (n : ℕ) → length ys ≤ n → length (cons_option o ys) ≤ n + 1
cons_fewer None ys n h = omega arith
cons_fewer (Some y) ys n h = omega arith

fewer_kept : {X Y : Type 0} (f : X → Option Y) (xs : List X) → length (filter_map f xs) ≤ length xs
fewer_kept f [] = omega arith
fewer_kept f (x ∷ xs) = omega (arith, cons_fewer (f x) (filter_map f xs) (length xs) (fewer_kept f xs))

-- an item that is not kept changes nothing
none_more : {Y : Type 0} (f : Item → Option Y) (items : List Item) (x : Item) → f x ≡ None
    → filter_map f (items ++ x ∷ []) ≡ filter_map f items
none_more f items x none =
    filter_map-append f items (x ∷ []) ∙ ap (λ o. filter_map f items ++ cons_option o []) none ∙ append-nil (filter_map f items)

-- one item more is kept at most
one_more : {Y : Type 0} (f : Item → Option Y) (items : List Item) (x : Item) → length (filter_map f (items ++ x ∷ [])) ≤ length items + 1
one_more f items x = omega (arith, fewer_kept f (items ++ x ∷ []), length-append items (x ∷ []))

-- where there is room for the items, and for one more of the item's kind than there are, there is room for the item too
pub room_made : (p : Parts) (items : List Item) (x : Item) → HasRoom p items → HasRoomOf p x (length items + 1) → HasRoom p (items ++ x ∷ [])
room_made p items (HeadItem h) room more = record {
  tables = rw (none_more table_of items (HeadItem h) refl) room.tables;
  nodes = rw (none_more node_of items (HeadItem h) refl) room.nodes;
  splits = rw (none_more split_of items (HeadItem h) refl) room.splits;
}
room_made p items (TableItem t) room more = record {
  tables = omega (arith, one_more table_of items (TableItem t), more);
  nodes = rw (none_more node_of items (TableItem t) refl) room.nodes;
  splits = rw (none_more split_of items (TableItem t) refl) room.splits;
}
room_made p items (NodeItem n) room more = record {
  tables = rw (none_more table_of items (NodeItem n) refl) room.tables;
  nodes = omega (arith, one_more node_of items (NodeItem n), more);
  splits = rw (none_more split_of items (NodeItem n) refl) room.splits;
}
room_made p items (SplitItem s) room more = record {
  tables = rw (none_more table_of items (SplitItem s) refl) room.tables;
  nodes = rw (none_more node_of items (SplitItem s) refl) room.nodes;
  splits = omega (arith, one_more split_of items (SplitItem s), more);
}
room_made p items (EndItem v) room more = record {
  tables = rw (none_more table_of items (EndItem v) refl) room.tables;
  nodes = rw (none_more node_of items (EndItem v) refl) room.nodes;
  splits = rw (none_more split_of items (EndItem v) refl) room.splits;
}

cons_more : {Y : Type 0} (o : Option Y) (ys : List Y) → length (cons_option o []) ≤ length (cons_option o ys)
cons_more None ys = omega arith
cons_more (Some y) ys = omega arith

-- room for items is room for the first of them
pub room_of_first : (p : Parts) (x : Item) (items : List Item) → HasRoom p (x ∷ items) → HasRoom p (x ∷ [])
room_of_first p x items room = record {
  tables = omega (arith, cons_more (table_of x) (tables_in items), room.tables);
  nodes = omega (arith, cons_more (node_of x) (nodes_in items), room.nodes);
  splits = omega (arith, cons_more (split_of x) (splits_in items), room.splits);
}

pub none_left : {A : Type 0} (xs : List A) → length xs ≡ 0 → xs ≡ []
none_left [] h = refl
none_left (x ∷ xs) h = absurd (omega arith)

still_out : (g : Gathered) (x : Item) → g.in_order ≡ false → (with_item g x).in_order ≡ false
still_out g (HeadItem h) out = rw out
still_out g (TableItem t) out = rw out
still_out g (NodeItem n) out = rw out
still_out g (SplitItem s) out = rw out
still_out g (EndItem v) out = rw out

-- once an item came out of order, there is no certificate
none_out_of_order : (items : List Item) (g : Gathered) → g.in_order ≡ false → cert_by (with_items g items) ≡ None
none_out_of_order [] g out = rw out
none_out_of_order (x ∷ items) g out = none_out_of_order items (with_item g x) (still_out g x out)

abbrev behind_head : Head → List Table → List Node → List Split → Gathered
behind_head h tables nodes splits = record { head = Some h; tables = tables; nodes = nodes; splits = splits; verdict = None; in_order = true }

abbrev behind_verdict : Head → List Table → List Node → List Split → Verdict → Gathered
behind_verdict h tables nodes splits v =
    record { head = Some h; tables = tables; nodes = nodes; splits = splits; verdict = Some v; in_order = true }

-- nothing may come behind a verdict
out_behind_verdict : (h : Head) (tables : List Table) (nodes : List Node) (splits : List Split) (v : Verdict) (x : Item)
    → (with_item (behind_verdict h tables nodes splits v) x).in_order ≡ false
out_behind_verdict h tables nodes splits v (HeadItem g) = refl
out_behind_verdict h tables nodes splits v (TableItem t) = refl
out_behind_verdict h tables nodes splits v (NodeItem n) = refl
out_behind_verdict h tables nodes splits v (SplitItem s) = refl
out_behind_verdict h tables nodes splits v (EndItem w) = refl

abbrev cert_with_verdict : Head → List Table → List Node → List Split → Option Verdict → Option Cert
cert_with_verdict h tables nodes splits verdict =
    option_map (λ v. record { head = h; tables = tables; nodes = nodes; splits = splits; verdict = v }) verdict

-- the certificate of items behind a head, of which some came
cert_behind_head : (items : List Item) (h : Head) (tables : List Table) (nodes : List Node) (splits : List Split)
    → cert_by (with_items (behind_head h tables nodes splits) items)
    ≡ cert_with_verdict h (tables ++ tables_in items) (nodes ++ nodes_in items) (splits ++ splits_in items) (verdict_of items)
cert_behind_head [] h tables nodes splits = refl
cert_behind_head (HeadItem g ∷ items) h tables nodes splits = none_out_of_order items _ refl
cert_behind_head (TableItem t ∷ items) h tables nodes splits =
    cert_behind_head items h (tables ++ t ∷ []) nodes splits
    ∙ ap (λ ts. cert_with_verdict h ts (nodes ++ nodes_in items) (splits ++ splits_in items) (verdict_of items))
    (append_assoc tables (t ∷ []) (tables_in items))
cert_behind_head (NodeItem n ∷ items) h tables nodes splits =
    cert_behind_head items h tables (nodes ++ n ∷ []) splits
    ∙ ap (λ ns. cert_with_verdict h (tables ++ tables_in items) ns (splits ++ splits_in items) (verdict_of items))
    (append_assoc nodes (n ∷ []) (nodes_in items))
cert_behind_head (SplitItem s ∷ items) h tables nodes splits =
    cert_behind_head items h tables nodes (splits ++ s ∷ [])
    ∙ ap (λ ss. cert_with_verdict h (tables ++ tables_in items) (nodes ++ nodes_in items) ss (verdict_of items))
    (append_assoc splits (s ∷ []) (splits_in items))
cert_behind_head (EndItem v ∷ []) h tables nodes splits = rw (append-nil tables, append-nil nodes, append-nil splits) refl
cert_behind_head (EndItem v ∷ x ∷ items) h tables nodes splits =
    none_out_of_order items _ (out_behind_verdict h tables nodes splits v x)

-- what is gathered of all items gives their certificate
pub cert_gathered : (items : List Item) → cert_by (with_items none_gathered items) ≡ cert_of items
cert_gathered [] = refl
cert_gathered (HeadItem h ∷ items) = cert_behind_head items h [] [] []
cert_gathered (TableItem t ∷ items) = none_out_of_order items _ refl
cert_gathered (NodeItem n ∷ items) = none_out_of_order items _ refl
cert_gathered (SplitItem s ∷ items) = none_out_of_order items _ refl
cert_gathered (EndItem v ∷ items) = none_out_of_order items _ refl
