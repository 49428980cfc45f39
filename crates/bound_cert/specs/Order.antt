-- Items in order: those whose lines break no rule, as far as lines go.
use Rattle.std.specs.Prelude.{ℕ, ◌≡◌, ◌==◌, false, List, [], ◌∷◌, length, None, is_none, is_some, ⊤}
use Rattle.service_model.specs.declared.cert.Item.{Item}
use Rattle.service_model.specs.declared.cert.Item.TheVariants.{Head as HeadItem, Table as TableItem, Node as NodeItem, Split as SplitItem, End as EndItem}
use Rattle.service_model.specs.Items.{is_head}
use Rattle.service_model.specs.CertNumbers.{InRange}
use Rattle.service_model.specs.Held.{Held, held_with, is_misplaced}
use Rattle.bound_cert.specs.declared.limits.TheConstants.{FORMAT}
use Rattle.bound_cert.specs.declared.line.Line.{Line}
use Rattle.bound_cert.specs.Stream.{Place}

-- a node has seen so many tables
abbrev pub HasSeen : ℕ → Item → Type 0
HasSeen seen (HeadItem h) = ⊤
HasSeen seen (TableItem t) = ⊤
HasSeen seen (NodeItem x) = x.seen ≡ seen
HasSeen seen (SplitItem s) = ⊤
HasSeen seen (EndItem v) = ⊤

-- what the line of an item gives
abbrev pub line_with : Item → Line
line_with x = record { version = FORMAT; item = x }

-- the item keeps the rules SHAPE, HEAD, AFTER_END and PLACE behind the items that came, and a node has seen their tables
pub record IsInOrder (h : Held) (x : Item) : Type 0 where
  pub shape : InRange x
  pub head : is_head x ≡ is_none h.head
  pub not_ended : h.verdict ≡ None
  pub placed : is_misplaced (length h.nodes) (length h.splits) x ≡ false
  pub seen : HasSeen (length h.tables) x

-- each of the items is in order, one after another
abbrev pub AllInOrder : Held → List Item → Type 0
AllInOrder h [] = ⊤
AllInOrder h (x ∷ items) = IsInOrder h x × AllInOrder (held_with h x) items

-- the place counts what came
pub record Counts (h : Held) (p : Place) : Type 0 where
  pub first : (p.lines == 0) ≡ is_none h.head
  pub tables : p.tables ≡ length h.tables
  pub nodes : p.nodes ≡ length h.nodes
  pub splits : p.splits ≡ length h.splits
  pub ended : p.ended ≡ is_some h.verdict
