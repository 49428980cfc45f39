-- Bytes one after another: how lines are counted, and that it does not matter how the bytes are cut.
use Rattle.std.proofs.Common.{◌≡◌, ℕ, ◌+◌, ◌<◌, ◌==◌, nat_lt, length, drop, get_or, drop-cons, add-one, List, [], ◌∷◌, ◌++◌, Bool, true, false, if◌then◌else◌, Option, Some, None, Result, Ok, Err, refl, sym, ap, ◌∙◌, arith, append_assoc}
use Rattle.service_model.specs.declared.cert.Item.{Item}
use Rattle.service_model.specs.declared.cert.Item.TheVariants.{Head as HeadItem, Table as TableItem, Node as NodeItem, Split as SplitItem, End as EndItem}
use Rattle.service_model.specs.declared.cert_rules.TheConstants.{LONG_LINE}
use Rattle.bound_cert.specs.declared.limits.TheConstants.{MAX_LINE}
use Rattle.bound_cert.specs.declared.line.Refusal.{Refusal}
use Rattle.bound_cert.specs.declared.line.Refusal.TheVariants.{NotJson, Shape}
use Rattle.bound_cert.specs.declared.line.Line.{Line}
use Rattle.bound_cert.specs.declared.fault.CertFault.{CertFault}
use Rattle.bound_cert.specs.Reading.{line_from}
use Rattle.bound_cert.specs.Stream.{Place, Step, Reads, after_item, broken_rule, fault_at, with_rule, with_line, line_done, read_byte, go_on, behind, reads, then_reads}
use Rattle.bound_cert.specs.Laws.{AnyCut}

-- a step adds a line for each of its items
abbrev pub CountsLines : Place → Step → Type 0
CountsLines p step = (items : List Item) (q : Place) → step ≡ Ok (items, q) → q.lines ≡ p.lines + length items

from_ok : Step → List Item × Place → List Item × Place
from_ok (Ok x) other = x
from_ok (Err fault) other = other

-- a step that gives just these items counts them
counts_these : (p : Place) (x : List Item × Place) → x.1.lines ≡ p.lines + length x.0 → CountsLines p (Ok x)
unfolding from_ok
counts_these p x counted items q e =
    let same : x ≡ (items, q) = ap (λ (s : Step). from_ok s x) e in
    sym (ap (λ (y : List Item × Place). y.1.lines) same) ∙ counted ∙ ap (λ (y : List Item × Place). p.lines + length y.0) same

counts_none : (p : Place) (fault : CertFault) → CountsLines p (Err fault)
counts_none p fault items q e = cc

one_line : (p : Place) (x : Item) → (after_item p x).lines ≡ p.lines + 1
one_line p (HeadItem h) = refl
one_line p (TableItem t) = refl
one_line p (NodeItem x) = refl
one_line p (SplitItem s) = refl
one_line p (EndItem v) = refl

rule_counts : (p : Place) (x : Item) (rule : Option ℕ) → CountsLines p (with_rule p x rule)
rule_counts p x (Some rule) = counts_none p _
rule_counts p x None = counts_these p _ (one_line p x)

line_counts : (p : Place) (read : Result Line Refusal) → CountsLines p (with_line p read)
line_counts p (Err NotJson) = counts_none p _
line_counts p (Err Shape) = counts_none p _
line_counts p (Ok line) = rule_counts p line.item (broken_rule p line)

pub line_done_counts : (p : Place) → CountsLines p (line_done p)
unfolding line_done
line_done_counts p = line_counts p (line_from p.tables p.begun)

room_counts : (p : Place) (b : ℕ) (room : Bool)
    → CountsLines p (if room then Ok ([], record p { begun = p.begun ++ b ∷ [] }) else fault_at p LONG_LINE)
room_counts p b true = counts_these p _ (omega arith)
room_counts p b false = counts_none p _

byte_counts : (p : Place) (b : ℕ) (feed : Bool)
    → CountsLines p
    (if feed then line_done p else (
    if nat_lt (length p.begun) MAX_LINE then Ok ([], record p { begun = p.begun ++ b ∷ [] }) else fault_at p LONG_LINE))
byte_counts p b true = line_done_counts p
byte_counts p b false = room_counts p b (nat_lt (length p.begun) MAX_LINE)

pub read_byte_counts : (p : Place) (b : ℕ) → CountsLines p (read_byte p b)
unfolding read_byte
read_byte_counts p b = byte_counts p b (b == 10)

-- the byte at a place, and those after it
pub next_byte : (bytes : List ℕ) (i : ℕ) → i < length bytes → drop i bytes ≡ get_or bytes i 0 ∷ drop (i + 1) bytes
next_byte bytes i h = drop-cons bytes i 0 h ∙ rw add-one refl

pub behind_again : (front items : List Item) (r : Reads) → behind front (behind items r) ≡ behind (front ++ items) r
behind_again front items r = ap (λ (xs : List Item). let q : Reads = (xs, r.1) in q) (sym (append_assoc front items r.0))

behind_then : (front : List Item) (r : Reads) (more : Place → Reads) → behind front (then_reads r more) ≡ then_reads (behind front r) more
behind_then front (items, Ok p) more = behind_again front items (more p)
behind_then front (items, Err fault) more = refl

cut_at : (front back : List ℕ) (step : Step) → ((p : Place) → reads (front ++ back) p ≡ then_reads (reads front p) (reads back))
    → go_on (reads (front ++ back)) step ≡ then_reads (go_on (reads front) step) (reads back)
cut_at front back (Ok x) later = ap (behind x.0) (later x.1) ∙ behind_then x.0 (reads front x.1) (reads back)
cut_at front back (Err fault) later = refl

pub any_cut : AnyCut
any_cut [] back p = refl
any_cut (b ∷ front) back p = cut_at front back (read_byte p b) (any_cut front back)
