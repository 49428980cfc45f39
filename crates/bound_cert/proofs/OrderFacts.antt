-- Items in order, and the places that count them.
use Rattle.std.proofs.Common.{◌≡◌, ℕ, ◌+◌, ◌==◌, nat_lt, not, length, List, [], ◌∷◌, ◌++◌, Bool, true, false, if◌then◌else◌, Option, Some, None, is_some, Result, Ok, Err, IfOk, refl, sym, ap, ◌∙◌, subst, arith, length-append, ne_eqb}
use Rattle.std.specs.Prelude.{⊤}
use Rattle.service_model.specs.declared.cert.Item.{Item}
use Rattle.service_model.specs.declared.cert.Item.TheVariants.{Head as HeadItem, Table as TableItem, Node as NodeItem, Split as SplitItem, End as EndItem}
use Rattle.service_model.specs.declared.cert_rules.TheConstants.{LONG_LINE, HEAD, VERSION, AFTER_END, PLACE, NO_END}
use Rattle.service_model.specs.Items.{is_head}
use Rattle.service_model.specs.Held.{Held, none_held, held_with, held_after, is_misplaced}
use Rattle.bound_cert.specs.declared.limits.TheConstants.{MAX_LINE, FORMAT}
use Rattle.bound_cert.specs.declared.line.Refusal.{Refusal}
use Rattle.bound_cert.specs.declared.line.Refusal.TheVariants.{NotJson, Shape}
use Rattle.bound_cert.specs.declared.line.Line.{Line}
use Rattle.bound_cert.specs.declared.fault.CertFault.{CertFault}
use Rattle.bound_cert.specs.Reading.{line_from}
use Rattle.bound_cert.specs.Stream.{Place, Step, Reads, start, then_reads, is_out_of_turn, broken_rule, after_item, fault_at, with_rule, with_line, line_done, read_byte, go_on, reads, closed, has_begun, reads_end}
use Rattle.bound_cert.specs.Order.{HasSeen, line_with, IsInOrder, AllInOrder, Counts}
use Rattle.bound_cert.specs.Laws.{ReadInOrder, EndInOrder}
use Rattle.bound_cert.proofs.RangeFacts.{IsRead, line_ok}

-- no item is out of turn exactly where it is a head and none came, or none and one came
pub turn_by : (first head : Bool) → head ≡ first → (if first then not head else head) ≡ false
turn_by true true e = refl
turn_by true false e = cc
turn_by false true e = cc
turn_by false false e = refl

pub turn_from : (first head : Bool) → (if first then not head else head) ≡ false → head ≡ first
turn_from true true e = refl
turn_from true false e = cc
turn_from false true e = cc
turn_from false false e = refl

pub none_by : {A : Type 0} (o : Option A) → is_some o ≡ false → o ≡ None
none_by None e = refl
none_by (Some x) e = cc

-- the four tests of a whole line, one after another
abbrev pub tests : Bool → Bool → Bool → Bool → Option ℕ
tests turn version ended placed =
    if turn then Some HEAD else (if version then Some VERSION else (if ended then Some AFTER_END else (if placed then Some PLACE else None)))

all_pass : (turn version ended placed : Bool) → tests turn version ended placed ≡ None → (turn ≡ false) × (ended ≡ false) × (placed ≡ false)
all_pass true version ended placed e = cc
all_pass false true ended placed e = cc
all_pass false false true placed e = cc
all_pass false false false true e = cc
all_pass false false false false e = (refl, refl, refl)

-- an item in order breaks no rule on whole lines
pub order_breaks_none : (h : Held) (p : Place) (x : Item) → Counts h p → IsInOrder h x → broken_rule p (line_with x) ≡ None
order_breaks_none h p x counts o =
    let turn : is_out_of_turn p x ≡ false = turn_by (p.lines == 0) (is_head x) (o.head ∙ sym counts.first) in
    let ended : p.ended ≡ false = counts.ended ∙ ap is_some o.not_ended in
    let placed : is_misplaced p.nodes p.splits x ≡ false = rw (counts.nodes, counts.splits) o.placed in
    rw (turn, ended, placed) refl

-- an item that breaks none is in order
none_broken_is_order : (h : Held) (p : Place) (line : Line) → Counts h p → IsRead p.tables line → broken_rule p line ≡ None → IsInOrder h line.item
none_broken_is_order h p line counts read none =
    let passed = all_pass (is_out_of_turn p line.item) (not (line.version == FORMAT)) p.ended (is_misplaced p.nodes p.splits line.item) none in
    record {
      shape = read.0;
      head = turn_from (p.lines == 0) (is_head line.item) passed.0 ∙ counts.first;
      not_ended = none_by h.verdict (sym counts.ended ∙ passed.1);
      placed = rw (← counts.nodes, ← counts.splits) passed.2;
      seen = subst (λ (k : ℕ). HasSeen k line.item) counts.tables read.1;
    }

later_line : (k : ℕ) → (k + 1 == 0) ≡ false
later_line k = let other : k + 1 ≡ 0 → ⊥ = λ e. omega arith in ne_eqb (k + 1) 0 other

one_longer : {A : Type 0} (xs : List A) (x : A) → length xs + 1 ≡ length (xs ++ x ∷ [])
one_longer xs x = sym (length-append xs (x ∷ []))

-- the place behind an item in order counts it
pub counts_more : (h : Held) (p : Place) (x : Item) → Counts h p → IsInOrder h x → Counts (held_with h x) (after_item p x)
counts_more h p (HeadItem g) counts o = record {
  first = later_line p.lines;
  tables = counts.tables;
  nodes = counts.nodes;
  splits = counts.splits;
  ended = counts.ended;
}
counts_more h p (TableItem t) counts o = record {
  first = later_line p.lines ∙ o.head;
  tables = ap (λ k. k + 1) counts.tables ∙ one_longer h.tables t;
  nodes = counts.nodes;
  splits = counts.splits;
  ended = counts.ended;
}
counts_more h p (NodeItem x) counts o = record {
  first = later_line p.lines ∙ o.head;
  tables = counts.tables;
  nodes = ap (λ k. k + 1) counts.nodes ∙ one_longer h.nodes x;
  splits = counts.splits;
  ended = counts.ended;
}
counts_more h p (SplitItem s) counts o = record {
  first = later_line p.lines ∙ o.head;
  tables = counts.tables;
  nodes = counts.nodes;
  splits = ap (λ k. k + 1) counts.splits ∙ one_longer h.splits s;
  ended = counts.ended;
}
counts_more h p (EndItem v) counts o = record {
  first = later_line p.lines ∙ o.head;
  tables = counts.tables;
  nodes = counts.nodes;
  splits = counts.splits;
  ended = refl;
}

-- the items of a step are in order, and the place behind them counts them
abbrev pub StepInOrder : Held → Step → Type 0
StepInOrder h (Ok x) = AllInOrder h x.0 × Counts (held_after h x.0) x.1
StepInOrder h (Err fault) = ⊤

rule_in_order : (h : Held) (p : Place) (line : Line) (rule : Option ℕ) → Counts h p → IsRead p.tables line → broken_rule p line ≡ rule
    → StepInOrder h (with_rule p line.item rule)
rule_in_order h p line (Some rule) counts read e = tt
rule_in_order h p line None counts read e =
    let o = none_broken_is_order h p line counts read e in
    ((o, tt), counts_more h p line.item counts o)

line_in_order : (h : Held) (p : Place) (read : Result Line Refusal) → Counts h p → IfOk read (IsRead p.tables) → StepInOrder h (with_line p read)
line_in_order h p (Err NotJson) counts ok = tt
line_in_order h p (Err Shape) counts ok = tt
line_in_order h p (Ok line) counts ok = rule_in_order h p line (broken_rule p line) counts ok refl

done_in_order : (h : Held) (p : Place) → Counts h p → StepInOrder h (line_done p)
unfolding line_done
done_in_order h p counts = line_in_order h p (line_from p.tables p.begun) counts (line_ok p.tables p.begun)

begun_in_order : (h : Held) (p : Place) (b : ℕ) (room : Bool) → Counts h p
    → StepInOrder h (if room then Ok ([], record p { begun = p.begun ++ b ∷ [] }) else fault_at p LONG_LINE)
begun_in_order h p b true counts =
    (tt, record { first = counts.first; tables = counts.tables; nodes = counts.nodes; splits = counts.splits; ended = counts.ended })
begun_in_order h p b false counts = tt

byte_by : (h : Held) (p : Place) (b : ℕ) (feed : Bool) → Counts h p
    → StepInOrder h
    (if feed then line_done p else (
    if nat_lt (length p.begun) MAX_LINE then Ok ([], record p { begun = p.begun ++ b ∷ [] }) else fault_at p LONG_LINE))
byte_by h p b true counts = done_in_order h p counts
byte_by h p b false counts = begun_in_order h p b (nat_lt (length p.begun) MAX_LINE) counts

pub byte_in_order : (h : Held) (p : Place) (b : ℕ) → Counts h p → StepInOrder h (read_byte p b)
unfolding read_byte
byte_in_order h p b counts = byte_by h p b (b == 10) counts

append_in_order : (h : Held) (front back : List Item) → AllInOrder h front → AllInOrder (held_after h front) back → AllInOrder h (front ++ back)
append_in_order h [] back first later = later
append_in_order h (x ∷ front) back (here, first) later = (here, append_in_order (held_with h x) front back first later)

pub held_after-append : (h : Held) (front back : List Item) → held_after h (front ++ back) ≡ held_after (held_after h front) back
held_after-append h [] back = refl
held_after-append h (x ∷ front) back = held_after-append (held_with h x) front back

-- what is read is in order, and the place behind it counts it
abbrev ReadsInOrder : Held → Reads → Type 0
ReadsInOrder h r = AllInOrder h r.0 × ((q : Place) → r.1 ≡ Ok q → Counts (held_after h r.0) q)

no_place : (fault : CertFault) (q : Place) → (let r : Result Place CertFault = Err fault in r) ≡ Ok q → ⊥
no_place fault q e = cc

goes_on_in_order : (h : Held) (more : Place → Reads) (step : Step) → StepInOrder h step
    → ((g : Held) (q : Place) → Counts g q → ReadsInOrder g (more q)) → ReadsInOrder h (go_on more step)
goes_on_in_order h more (Ok x) (first, counts) next =
    let later = next (held_after h x.0) x.1 counts in
    (append_in_order h x.0 (more x.1).0 first later.0, λ q e. subst (λ (g : Held). Counts g q) (sym (held_after-append h x.0 (more x.1).0)) (later.1 q e))
goes_on_in_order h more (Err fault) step next = (tt, λ q e. absurd (no_place fault q e))

ok_place : (p q : Place) → (let r : Result Place CertFault = Ok p in r) ≡ Ok q → p ≡ q
ok_place p q e = cc

pub read_in_order : ReadInOrder
read_in_order [] h p counts = (tt, λ q e. subst (Counts h) (ok_place p q e) counts)
read_in_order (b ∷ bytes) h p counts =
    goes_on_in_order h (reads bytes) (read_byte p b) (byte_in_order h p b counts) (read_in_order bytes)

abbrev closes_as : Place → Bool → Reads
closes_as p ended = if ended then ([], Ok p) else ([], fault_at p NO_END)

closes_in_order : (h : Held) (p : Place) (ended : Bool) → Counts h p → ReadsInOrder h (closes_as p ended)
closes_in_order h p true counts = (tt, λ q e. subst (Counts h) (ok_place p q e) counts)
closes_in_order h p false counts = (tt, λ q e. absurd (no_place _ q e))

closed_in_order : (h : Held) (p : Place) → Counts h p → ReadsInOrder h (closed p)
unfolding closed
closed_in_order h p counts = closes_in_order h p p.ended counts

abbrev ends_as : Place → Bool → Reads
ends_as p begun = if begun then go_on closed (line_done p) else closed p

ends_in_order : (h : Held) (p : Place) (begun : Bool) → Counts h p → ReadsInOrder h (ends_as p begun)
ends_in_order h p true counts = goes_on_in_order h closed (line_done p) (done_in_order h p counts) closed_in_order
ends_in_order h p false counts = closed_in_order h p counts

pub end_in_order : EndInOrder
unfolding reads_end
end_in_order h p counts = (ends_in_order h p (has_begun p) counts).0

pub starts : Counts none_held start
starts = record { first = refl; tables = refl; nodes = refl; splits = refl; ended = refl }

then_in_order : (h : Held) (r : Reads) (more : Place → Reads) → ReadsInOrder h r → ((g : Held) (q : Place) → Counts g q → AllInOrder g (more q).0)
    → AllInOrder h (then_reads r more).0
then_in_order h (items, Ok p) more (first, counts) next = append_in_order h items (more p).0 first (next (held_after h items) p (counts p refl))
then_in_order h (items, Err fault) more (first, counts) next = first

-- the items of bytes up to their end are in order
pub whole_in_order : (bytes : List ℕ) → AllInOrder none_held (then_reads (reads bytes start) reads_end).0
whole_in_order bytes = then_in_order none_held (reads bytes start) reads_end (read_in_order bytes none_held start starts) end_in_order
