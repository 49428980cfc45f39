-- The lines of items in order read back as the items.
use Rattle.std.proofs.Common.{◌≡◌, is_some, ℕ, suc, ◌+◌, ◌<◌, ◌≤◌, List, [], ◌∷◌, ◌++◌, length, flat_map, All, true, false, Ok, refl, sym, ap, ◌∙◌, subst, arith, append_assoc, append-nil, length-append, ne_eqb, lt-ltb}
use Rattle.service_model.specs.declared.cert.Item.{Item}
use Rattle.service_model.specs.declared.cert.Item.TheVariants.{Head as HeadItem, Table as TableItem, Node as NodeItem, Split as SplitItem, End as EndItem}
use Rattle.service_model.specs.Items.{items_from, items_of}
use Rattle.service_model.specs.Held.{Held, none_held, held_with, held_after}
use Rattle.bound_cert.specs.declared.limits.TheConstants.{MAX_LINE}
use Rattle.bound_cert.specs.Lines.{data_of, text_of, line_of}
use Rattle.bound_cert.specs.Stream.{Place, Step, Reads, start, reads, read_byte, line_done, with_line, with_rule, go_on, behind, after_item, after_items, broken_rule, closed, has_begun, reads_end, then_reads}
use Rattle.bound_cert.specs.Order.{HasSeen, line_with, IsInOrder, AllInOrder, Counts}
use Rattle.bound_cert.specs.Laws.{IsShort, LinesBack, WholeBack, ItemsBack}
use Rattle.bound_cert.proofs.ExactFacts.{IsPrintable, text_printable}
use Rattle.bound_cert.proofs.BackFacts.{exact_item, reads_back}
use Rattle.bound_cert.proofs.OrderFacts.{order_breaks_none, counts_more, held_after-append, starts}
use Rattle.bound_cert.proofs.EndFacts.{no_last_line}

-- the place with other bytes begun
abbrev begun_with : Place → List ℕ → Place
begun_with p bytes = record p { begun = bytes }

one_more : (p : Place) (b : ℕ) → 32 ≤ b → length p.begun < MAX_LINE → read_byte p b ≡ Ok ([], begun_with p (p.begun ++ b ∷ []))
unfolding read_byte
one_more p b printable room = let other : b ≡ 10 → ⊥ = λ e. omega arith in rw (ne_eqb b 10 other, lt-ltb _ _ room)

line_feed_ends : (p : Place) → read_byte p 10 ≡ line_done p
unfolding read_byte
line_feed_ends p = refl

-- the printable bytes of a line are begun one after another, and its line feed makes it whole
bytes_of_line : (text rest : List ℕ) (p : Place) → IsPrintable text → length p.begun + length text ≤ MAX_LINE
    → reads (text ++ 10 ∷ rest) p ≡ go_on (reads rest) (line_done (begun_with p (p.begun ++ text)))
bytes_of_line [] rest p plain room =
    ap (go_on (reads rest)) (line_feed_ends p)
    ∙ ap (λ (bs : List ℕ). go_on (reads rest) (line_done (begun_with p bs))) (sym (append-nil p.begun))
bytes_of_line (b ∷ text) rest p plain room =
    let q = begun_with p (p.begun ++ b ∷ []) in
    let fits : length p.begun < MAX_LINE = omega arith in
    let fits_on : length (p.begun ++ b ∷ []) + length text ≤ MAX_LINE = omega (arith, length-append p.begun (b ∷ [])) in
    ap (go_on (reads (text ++ 10 ∷ rest))) (one_more p b plain.0 fits)
    ∙ bytes_of_line text rest q plain.2 fits_on
    ∙ ap (λ (bs : List ℕ). go_on (reads rest) (line_done (begun_with p bs))) (append_assoc p.begun (b ∷ []) text)

-- the rules on a line and the place behind it do not look at the bytes begun
same_rule : (p : Place) (bytes : List ℕ) (x : Item) → broken_rule (begun_with p bytes) (line_with x) ≡ broken_rule p (line_with x)
same_rule p bytes (HeadItem h) = refl
same_rule p bytes (TableItem t) = refl
same_rule p bytes (NodeItem x) = refl
same_rule p bytes (SplitItem s) = refl
same_rule p bytes (EndItem v) = refl

same_after : (p : Place) (bytes : List ℕ) (x : Item) → after_item (begun_with p bytes) x ≡ after_item p x
same_after p bytes (HeadItem h) = refl
same_after p bytes (TableItem t) = refl
same_after p bytes (NodeItem x) = refl
same_after p bytes (SplitItem s) = refl
same_after p bytes (EndItem v) = refl

none_begun : (p : Place) (x : Item) → (after_item p x).begun ≡ []
none_begun p (HeadItem h) = refl
none_begun p (TableItem t) = refl
none_begun p (NodeItem x) = refl
none_begun p (SplitItem s) = refl
none_begun p (EndItem v) = refl

item_line : (h : Held) (p : Place) (x : Item) → Counts h p → IsInOrder h x → line_done (begun_with p (text_of x)) ≡ Ok (x ∷ [], after_item p x)
unfolding line_done
item_line h p x counts o =
    let q = begun_with p (text_of x) in
    let seen : HasSeen p.tables x = subst (λ (k : ℕ). HasSeen k x) (sym counts.tables) o.seen in
    ap (with_line q) (reads_back p.tables x o.shape seen)
    ∙ ap (with_rule q x) (same_rule p (text_of x) x ∙ order_breaks_none h p x counts o)
    ∙ ap (λ (r : Place). let s : Step = Ok (x ∷ [], r) in s) (same_after p (text_of x) x)

-- from any place that counts what came
pub lines_back_from : (items : List Item) (h : Held) (p : Place) → Counts h p → p.begun ≡ [] → AllInOrder h items → All IsShort items
    → reads (flat_map line_of items) p ≡ (items, Ok (after_items p items))
lines_back_from [] h p counts none ordered short = refl
lines_back_from (x ∷ items) h p counts none (o, later) short =
    let here : length (text_of x) ≤ MAX_LINE = short 0 x (omega arith) in
    let room : length p.begun + length (text_of x) ≤ MAX_LINE = rw none (omega (arith, here)) in
    let rest = flat_map line_of items in
    ap (λ (bs : List ℕ). reads bs p) (append_assoc (text_of x) (10 ∷ []) rest)
    ∙ bytes_of_line (text_of x) rest p (text_printable 3 (data_of x) (exact_item x o.shape)) room
    ∙ ap (λ (bs : List ℕ). go_on (reads rest) (line_done (begun_with p (bs ++ text_of x)))) none
    ∙ ap (go_on (reads rest)) (item_line h p x counts o)
    ∙ ap (behind (x ∷ [])) (lines_back_from items (held_with h x) (after_item p x) (counts_more h p x counts o) (none_begun p x) later (λ k d lt. short (suc k) d (omega arith)))

pub lines_back : LinesBack
lines_back items ordered short = lines_back_from items none_held start starts refl ordered short

-- the place behind items in order counts them, and has nothing begun
all_counted : (items : List Item) (h : Held) (p : Place) → Counts h p → p.begun ≡ [] → AllInOrder h items
    → Counts (held_after h items) (after_items p items) × ((after_items p items).begun ≡ [])
all_counted [] h p counts none ordered = (counts, none)
all_counted (x ∷ items) h p counts none (o, later) =
    all_counted items (held_with h x) (after_item p x) (counts_more h p x counts o) (none_begun p x) later

none_left_begun : (p : Place) → p.begun ≡ [] → has_begun p ≡ false
none_left_begun p none = rw none refl

ends_well : (p : Place) → p.ended ≡ true → p.begun ≡ [] → reads_end p ≡ ([], Ok p)
unfolding closed
ends_well p ended none = no_last_line p (none_left_begun p none) ∙ rw ended refl

pub whole_back : WholeBack
whole_back items ordered short ended =
    let counted = all_counted items none_held start starts refl ordered in
    let end = after_items start items in
    let over : end.ended ≡ true = counted.0.ended ∙ ended in
    ap (λ (r : Reads). then_reads r reads_end) (lines_back items ordered short)
    ∙ ap (behind items) (ends_well end over counted.1)
    ∙ ap (λ (xs : List Item). let r : Reads = (xs, Ok end) in r) (append-nil items)

pub items_back : ItemsBack
items_back c ordered short =
    let front = HeadItem c.head ∷ items_from c 0 0 c.nodes in
    let ended = ap (λ (h : Held). is_some h.verdict) (held_after-append none_held front (EndItem c.verdict ∷ [])) in
    whole_back (items_of c) ordered short ended
