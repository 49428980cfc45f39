-- The bytes of a certificate, one after another: a line is read at its line feed.
use Rattle.std.specs.Prelude.{ℕ, ◌+◌, ◌==◌, nat_lt, not, List, [], ◌∷◌, ◌++◌, length, Bool, true, false, if◌then◌else◌, Option, Some, None, Result, Ok, Err}
use Rattle.service_model.specs.declared.cert_rules.TheConstants.{LONG_LINE, NOT_JSON, SHAPE, HEAD, VERSION, AFTER_END, PLACE, NO_END}
use Rattle.service_model.specs.declared.cert.Item.{Item}
use Rattle.service_model.specs.declared.cert.Item.TheVariants.{Head as HeadItem, Table as TableItem, Node as NodeItem, Split as SplitItem, End as EndItem}
use Rattle.service_model.specs.Items.{is_head}
use Rattle.service_model.specs.Held.{is_misplaced}
use Rattle.bound_cert.specs.declared.limits.TheConstants.{MAX_LINE, FORMAT}
use Rattle.bound_cert.specs.declared.line.Refusal.{Refusal}
use Rattle.bound_cert.specs.declared.line.Refusal.TheVariants.{NotJson, Shape}
use Rattle.bound_cert.specs.declared.line.Line.{Line}
use Rattle.bound_cert.specs.declared.fault.CertFault.{CertFault}
use Rattle.bound_cert.specs.Reading.{line_from}

-- what came: lines, and of them tables, nodes and splits; whether an end did; and the bytes of the line begun
pub record Place : Type 0 where
  pub lines : ℕ
  pub tables : ℕ
  pub nodes : ℕ
  pub splits : ℕ
  pub ended : Bool
  pub begun : List ℕ

-- no byte was read
abbrev pub start : Place
start = record { lines = 0; tables = 0; nodes = 0; splits = 0; ended = false; begun = [] }

-- the first line is a head, and no later one is
abbrev pub is_out_of_turn : Place → Item → Bool
is_out_of_turn p x = if p.lines == 0 then not (is_head x) else is_head x

-- the first of the rules from HEAD to PLACE that fails on a line
abbrev pub broken_rule : Place → Line → Option ℕ
broken_rule p line =
    if is_out_of_turn p line.item then Some HEAD else (
    if not (line.version == FORMAT) then Some VERSION else (
    if p.ended then Some AFTER_END else (
    if is_misplaced p.nodes p.splits line.item then Some PLACE else None)))

-- the place after the line of an item
abbrev pub after_item : Place → Item → Place
after_item p (HeadItem h) = record p { lines = p.lines + 1; begun = [] }
after_item p (TableItem t) = record p { lines = p.lines + 1; tables = p.tables + 1; begun = [] }
after_item p (NodeItem x) = record p { lines = p.lines + 1; nodes = p.nodes + 1; begun = [] }
after_item p (SplitItem s) = record p { lines = p.lines + 1; splits = p.splits + 1; begun = [] }
after_item p (EndItem v) = record p { lines = p.lines + 1; ended = true; begun = [] }

-- the place after the lines of items
abbrev pub after_items : Place → List Item → Place
after_items p [] = p
after_items p (x ∷ items) = after_items (after_item p x) items

-- a rule fails on the line that comes next
abbrev pub fault_at : {A : Type 0} → Place → ℕ → Result A CertFault
fault_at p rule = Err (record { line = p.lines + 1; rule = rule })

-- the items that one more byte gives, at most one, and the place behind them
abbrev pub Step : Type 0
Step = Result (List Item × Place) CertFault

-- a line gives its item, unless a rule on its place fails
abbrev pub with_rule : Place → Item → Option ℕ → Step
with_rule p x (Some rule) = fault_at p rule
with_rule p x None = Ok (x ∷ [], after_item p x)

-- what is read of a line gives its item, or the first rule that fails on it
abbrev pub with_line : Place → Result Line Refusal → Step
with_line p (Err NotJson) = fault_at p NOT_JSON
with_line p (Err Shape) = fault_at p SHAPE
with_line p (Ok line) = with_rule p line.item (broken_rule p line)

-- the line begun is whole
unfoldable pub line_done : Place → Step
line_done p = with_line p (line_from p.tables p.begun)

-- one more byte: a line feed makes the line whole, and any other byte is the line's, if there is room
unfoldable pub read_byte : Place → ℕ → Step
read_byte p b =
    if b == 10 then line_done p else (
    if nat_lt (length p.begun) MAX_LINE then Ok ([], record p { begun = p.begun ++ b ∷ [] }) else fault_at p LONG_LINE)

-- the items that bytes give, and the place behind them or the first fault
abbrev pub Reads : Type 0
Reads = List Item × Result Place CertFault

-- the items of `front` come before
abbrev pub behind : List Item → Reads → Reads
behind front r = (front ++ r.0, r.1)

-- a step, and what comes after it
abbrev pub go_on : (Place → Reads) → Step → Reads
go_on more (Ok x) = behind x.0 (more x.1)
go_on more (Err fault) = ([], Err fault)

-- what bytes give from a place on
abbrev pub reads : List ℕ → Place → Reads
reads [] p = ([], Ok p)
reads (b ∷ bytes) p = go_on (reads bytes) (read_byte p b)

-- after the last byte an end must have come
unfoldable pub closed : Place → Reads
closed p = if p.ended then ([], Ok p) else ([], fault_at p NO_END)

-- a line is begun and not ended
abbrev pub has_begun : Place → Bool
has_begun p = not (length p.begun == 0)

-- what the end of the bytes gives: a line begun is a line
unfoldable pub reads_end : Place → Reads
reads_end p = if has_begun p then go_on closed (line_done p) else closed p

-- what is read, and what comes after it unless there was a fault
abbrev pub then_reads : Reads → (Place → Reads) → Reads
then_reads (items, Ok p) more = behind items (more p)
then_reads (items, Err fault) more = (items, Err fault)
