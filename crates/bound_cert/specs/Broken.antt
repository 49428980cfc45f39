-- The first line that breaks a rule on whole lines, and its item.
use Rattle.std.specs.Prelude.{◌≡◌, ℕ, ◌+◌, ◌⊎◌, List, ◌∷◌, ◌++◌, length, Ok}
use Rattle.service_model.specs.declared.cert_rules.TheConstants.{HEAD, AFTER_END, PLACE}
use Rattle.service_model.specs.declared.cert.Item.{Item}
use Rattle.service_model.specs.Net.{Net}
use Rattle.service_model.specs.Held.{Held, held_after}
use Rattle.service_model.specs.Certs.{IsFirstBroken}
use Rattle.bound_cert.specs.declared.line.Line.{Line}
use Rattle.bound_cert.specs.declared.fault.CertFault.{CertFault}
use Rattle.bound_cert.specs.Lines.{line_feed}
use Rattle.bound_cert.specs.Reading.{line_from}
use Rattle.bound_cert.specs.Stream.{Place, reads}

-- the rules on lines that are rules on items too, and that a line that reads as an item can break
abbrev pub IsOfItems : ℕ → Type 0
IsOfItems rule = (rule ≡ HEAD) ⊎ ((rule ≡ AFTER_END) ⊎ (rule ≡ PLACE))

-- behind these items, which bytes from a place on give, the next line is an item on which the rule is the first that fails
pub record BreaksRule (n : Net) (h : Held) (p : Place) (bytes : List ℕ) (items : List Item) (fault : CertFault) : Type 0 where
  pub front : List ℕ
  pub rest : List ℕ
  pub parts : bytes ≡ front ++ line_feed ∷ rest
  pub place : Place
  pub before : reads front p ≡ (items, Ok place)
  pub line : Line
  pub reads_as : line_from place.tables place.begun ≡ Ok line
  pub number : fault.line ≡ p.lines + length items + 1
  pub broken : IsFirstBroken n (held_after h items) line.item fault.rule
