-- Laws of certificate lines: what is written reads back, what is read keeps the rules on lines, and it does not
-- matter how the bytes are cut.
use Rattle.std.specs.Prelude.{ℕ, ◌≡◌, ◌≤◌, List, ◌++◌, length, All, IsSome, Ok, Err, flat_map}
use Rattle.service_model.specs.declared.cert.Cert.{Cert}
use Rattle.service_model.specs.declared.cert.Item.{Item}
use Rattle.service_model.specs.Net.{Net}
use Rattle.service_model.specs.Items.{items_of}
use Rattle.service_model.specs.CertNumbers.{InRange}
use Rattle.service_model.specs.Held.{Held, none_held, held_after}
use Rattle.service_model.specs.Certs.{AllKeep}
use Rattle.bound_cert.specs.declared.limits.TheConstants.{MAX_LINE}
use Rattle.bound_cert.specs.Lines.{text_of, line_of}
use Rattle.bound_cert.specs.Reading.{line_from}
use Rattle.bound_cert.specs.Stream.{Place, start, after_items, reads, reads_end, then_reads}
use Rattle.bound_cert.specs.Order.{HasSeen, line_with, AllInOrder, Counts}
use Rattle.bound_cert.specs.Sizes.{HasFewNumbers}
use Rattle.bound_cert.specs.declared.fault.CertFault.{CertFault}
use Rattle.bound_cert.specs.Seen.{HaveSeen, SeesInTurn}
use Rattle.bound_cert.specs.Broken.{IsOfItems, BreaksRule}

-- the line of an item whose numbers are in their ranges reads back as the item
abbrev pub ReadsBack : Type 0
ReadsBack = (seen : ℕ) (x : Item) → InRange x → HasSeen seen x → line_from seen (text_of x) ≡ Ok (line_with x)

-- the item's line is not too long
abbrev pub IsShort : Item → Type 0
IsShort x = length (text_of x) ≤ MAX_LINE

-- the line of an item of few numbers, in their ranges, is not too long
abbrev pub ShortLaw : Type 0
ShortLaw = (x : Item) → InRange x → HasFewNumbers x → IsShort x

-- the lines of items in order read back as the items
abbrev pub LinesBack : Type 0
LinesBack = (items : List Item) → AllInOrder none_held items → All IsShort items
    → reads (flat_map line_of items) start ≡ (items, Ok (after_items start items))

-- with an end among them, the end of the bytes gives no fault
abbrev pub WholeBack : Type 0
WholeBack = (items : List Item) → AllInOrder none_held items → All IsShort items → IsSome (held_after none_held items).verdict
    → then_reads (reads (flat_map line_of items) start) reads_end ≡ (items, Ok (after_items start items))

-- the lines of a certificate's items read back as these items, and the end of the bytes gives no fault
abbrev pub ItemsBack : Type 0
ItemsBack = (c : Cert) → AllInOrder none_held (items_of c) → All IsShort (items_of c)
    → then_reads (reads (flat_map line_of (items_of c)) start) reads_end ≡ (items_of c, Ok (after_items start (items_of c)))

-- items on which no rule fails are in order, where each node has seen just the tables before it
abbrev pub KeptInOrder : Type 0
KeptInOrder = (n : Net) (items : List Item) → AllKeep n none_held items → HaveSeen items → AllInOrder none_held items

-- each node among a certificate's items has seen just the tables before it, where the numbers of tables do not fall and are no more than there are
abbrev pub CertSeen : Type 0
CertSeen = (c : Cert) → SeesInTurn c → HaveSeen (items_of c)

-- the items that bytes give are in order behind those that came, and the place counts them
abbrev pub ReadInOrder : Type 0
ReadInOrder = (bytes : List ℕ) (h : Held) (p : Place) → Counts h p
    → AllInOrder h (reads bytes p).0
    × ((q : Place) → (reads bytes p).1 ≡ Ok q → Counts (held_after h (reads bytes p).0) q)

-- and so is the item of a last line without a line feed
abbrev pub EndInOrder : Type 0
EndInOrder = (h : Held) (p : Place) → Counts h p → AllInOrder h (reads_end p).0

-- each node that is read has seen just the tables of the lines before it
abbrev pub SeenLaw : Type 0
SeenLaw = (bytes : List ℕ) → HaveSeen (reads bytes start).0 × HaveSeen (then_reads (reads bytes start) reads_end).0

-- what bytes give does not depend on how they are cut
abbrev pub AnyCut : Type 0
AnyCut = (front back : List ℕ) (p : Place) → reads (front ++ back) p ≡ then_reads (reads front p) (reads back)

-- where a line breaks HEAD, AFTER_END or PLACE, its item breaks that rule on items, behind the items read, and none below
abbrev pub RulesAgree : Type 0
RulesAgree = (n : Net) (bytes : List ℕ) (fault : CertFault) → (reads bytes start).1 ≡ Err fault → IsOfItems fault.rule
    → BreaksRule n none_held start bytes (reads bytes start).0 fault
