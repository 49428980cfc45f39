-- A walk over lines goes on behind another.
use Rattle.std.proofs.Common.{◌≡◌, ◌<◌, ◌≤◌, ◌+◌, ◌/◌, max, ℕ, suc, add-one, drop-cons, List, [], ◌∷◌, ◌++◌, length, map, take, drop, get_or, Result, Ok, Err, refl, sym, ap, ◌∙◌, subst, append_assoc, append-nil}
use Rattle.std.proofs.lemmas.List.{take_more, take-append-drop, drop_all, map-append, map_push}
use Rattle.service_model.specs.declared.table.Table.{Table}
use Rattle.service_model.specs.declared.cert.Node.{Node}
use Rattle.service_model.specs.declared.cert.Split.{Split}
use Rattle.service_model.specs.declared.cert.Cert.{Cert}
use Rattle.service_model.specs.declared.cert.Item.{Item}
use Rattle.service_model.specs.declared.cert.Item.TheVariants.{Table as TableItem, Node as NodeItem, Split as SplitItem}
use Rattle.service_model.specs.Net.{Net}
use Rattle.service_model.specs.Items.{split_after, items_from}
use Rattle.cert_check.specs.declared.check_fault.CheckFault.{CheckFault}
use Rattle.cert_check.specs.declared.check_fault.CheckFault.TheVariants.{Fault, NoMemory}
use Rattle.cert_check.specs.Written.{IsRefusedLine}
use Rattle.cert_check.specs.Walking.{Walking, HasWalked, Walks}

pub walks_none : (w : Walking) → Walks w w [] (Ok tt)
walks_none w = (refl, λ before walked. subst (HasWalked w) (sym (append-nil before)) walked)

pub walks_then : (a b c : Walking) (xs ys : List Item) (result : Result (Unit {0}) CheckFault) → Walks a b xs (Ok tt) → Walks b c ys result
    → Walks a c (xs ++ ys) result
walks_then a b c xs ys (Ok u) first second =
    (second.0 ∙ first.0, λ before walked. subst (HasWalked c) (append_assoc before xs ys) (second.1 (before ++ xs) (first.1 before walked)))
walks_then a b c xs ys (Err (Fault f)) first second = λ before walked.
    subst (λ (n : Net). IsRefusedLine n (before ++ (xs ++ ys)) f.line f.rule) first.0
    (subst (λ (items : List Item). IsRefusedLine b.checking.network items f.line f.rule) (append_assoc before xs ys) (second (before ++ xs) (first.1 before walked)))
walks_then a b c xs ys (Err NoMemory) first second = tt

-- a refused line stays the first, whatever comes behind
pub walks_no_further : (a b c : Walking) (xs ys : List Item) (fault : CheckFault) → Walks a b xs (Err fault) → Walks a c (xs ++ ys) (Err fault)
walks_no_further a b c xs ys (Fault f) first = λ before walked.
    let refused = first before walked in
    record {
      front = refused.front;
      item = refused.item;
      rest = refused.rest ++ ys;
      parts = sym (append_assoc before xs ys) ∙ ap (λ (items : List Item). items ++ ys) refused.parts ∙ append_assoc refused.front (refused.item ∷ refused.rest) ys;
      keep = refused.keep;
      short = refused.short;
      fault = refused.fault;
      place = refused.place;
    }
walks_no_further a b c xs ys NoMemory first = tt

-- ---- the items of a list, one after another
one_more : {X : Type 0} (f : X → Item) (xs : List X) (i : ℕ) (d : X) → i < length xs → map f (take (i + 1) xs) ≡ map f (take i xs) ++ f (get_or xs i d) ∷ []
one_more f xs i d within = ap (map f) (take_more xs i d within) ∙ map_push f (take i xs) (get_or xs i d)

pub walks_next : {X : Type 0} (f : X → Item) (xs : List X) (i : ℕ) (d : X) (a b c : Walking) → i < length xs → Walks a b (map f (take i xs)) (Ok tt)
    → Walks b c (f (get_or xs i d) ∷ []) (Ok tt) → Walks a c (map f (take (i + 1) xs)) (Ok tt)
walks_next f xs i d a b c within first second =
    subst (λ (items : List Item). Walks a c items (Ok tt)) (sym (one_more f xs i d within)) (walks_then a b c _ _ (Ok tt) first second)

pub walks_stop : {X : Type 0} (f : X → Item) (xs : List X) (i : ℕ) (d : X) (a b c : Walking) (fault : CheckFault) → i < length xs → Walks a b (map f (take i xs)) (Ok tt)
    → Walks b c (f (get_or xs i d) ∷ []) (Err fault) → Walks a c (map f xs) (Err fault)
walks_stop f xs i d a b c fault within first second =
    let all : map f (take (i + 1) xs) ++ map f (drop (i + 1) xs) ≡ map f xs = sym (map-append f (take (i + 1) xs) (drop (i + 1) xs)) ∙ ap (map f) (take-append-drop (i + 1) xs) in
    let so_far = subst (λ (items : List Item). Walks a c items (Err fault)) (sym (one_more f xs i d within)) (walks_then a b c _ _ (Err fault) first second) in
    subst (λ (items : List Item). Walks a c items (Err fault)) all (walks_no_further a c c _ _ fault so_far)

-- ---- the items of a certificate's nodes
-- what stands for a node: the tables that it sees first, the node, and the split behind it
abbrev pub node_items : Cert → ℕ → ℕ → Node → List Item
node_items c k came x =
    map TableItem (drop came (take x.seen c.tables)) ++ NodeItem x ∷ map SplitItem (split_after c.splits k)

pub nodes_next : (c : Cert) (k came : ℕ) (x : Node) (done all : List Item) → k < length c.nodes → x ≡ get_or c.nodes k x
    → done ++ items_from c k came (drop k c.nodes) ≡ all
    → (done ++ node_items c k came x) ++ items_from c (k + 1) (max came x.seen) (drop (k + 1) c.nodes) ≡ all
nodes_next c k came x done all within here left =
    let first : drop k c.nodes ≡ x ∷ drop (k + 1) c.nodes =
    drop-cons c.nodes k x within ∙ ap (λ (y : Node). y ∷ drop (suc k) c.nodes) (sym here) ∙ ap (λ j. x ∷ drop j c.nodes) (sym (add-one k)) in
    append_assoc done (node_items c k came x) (items_from c (k + 1) (max came x.seen) (drop (k + 1) c.nodes))
    ∙ ap (λ (nodes : List Node). done ++ items_from c k came nodes) (sym first)
    ∙ left

pub nodes_left : (c : Cert) (k came : ℕ) (done all : List Item) → length c.nodes ≤ k → done ++ items_from c k came (drop k c.nodes) ≡ all
    → done ++ (map TableItem (drop came c.tables) ++ map SplitItem (drop ((k + 1) / 2) c.splits)) ≡ all
nodes_left c k came done all past left =
    ap (λ (nodes : List Node). done ++ items_from c k came nodes) (sym (drop_all k c.nodes past)) ∙ left

-- the items of a node, from lists that are equal to the certificate's
pub node_items_are : (c : Cert) (k came : ℕ) (x : Node) (all_tables tables : List Table) (all_splits splits : List Split) → all_tables ≡ c.tables → all_splits ≡ c.splits
    → tables ≡ drop came (take x.seen all_tables) → splits ≡ split_after all_splits k
    → map TableItem tables ++ NodeItem x ∷ map SplitItem splits ≡ node_items c k came x
node_items_are c k came x all_tables tables all_splits splits same_tables same_splits first second =
    ap (λ (ts : List Table). map TableItem ts ++ NodeItem x ∷ map SplitItem splits) (first ∙ ap (λ (ts : List Table). drop came (take x.seen ts)) same_tables)
    ∙ ap (λ (ss : List Split). map TableItem (drop came (take x.seen c.tables)) ++ NodeItem x ∷ map SplitItem ss)
    (second ∙ ap (λ (ss : List Split). split_after ss k) same_splits)
