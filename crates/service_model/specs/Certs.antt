-- The first fault of a certificate's items, and which certificates are accepted.
use Rattle.std.specs.Prelude.{◌≡◌, ℕ, ◌+◌, ◌<◌, ◌⊎◌, List, [], ◌∷◌, ◌++◌, length, None, IsSome, ⊤}
use Rattle.service_model.specs.declared.cert_rules.TheConstants.{NO_END}
use Rattle.service_model.specs.declared.cert.Item.{Item}
use Rattle.service_model.specs.Net.{Net}
use Rattle.service_model.specs.Held.{Held, none_held, held_with, held_after}
use Rattle.service_model.specs.CertRules.{Rule, Keeps}

-- the rule is the first that fails on the item
pub record IsFirstBroken (n : Net) (h : Held) (x : Item) (rule : ℕ) : Type 0 where
  pub fails : ¬ Rule n h x rule
  pub first : (k : ℕ) → k < rule → Rule n h x k

-- all rules hold of each of the items, one after another
abbrev pub AllKeep : Net → Held → List Item → Type 0
AllKeep n h [] = ⊤
AllKeep n h (x ∷ items) = Keeps n h x × AllKeep n (held_with h x) items

-- all rules hold of each of the items, and the last is an end
pub record IsAccepted (n : Net) (items : List Item) : Type 0 where
  pub keep : AllKeep n none_held items
  pub ended : IsSome (held_after none_held items).verdict

-- the item at a line, from 1 on, is the first on which a rule fails, and the rule is the first that fails on it
pub record IsFaultAt (n : Net) (items : List Item) (line rule : ℕ) : Type 0 where
  pub front : List Item
  pub item : Item
  pub rest : List Item
  pub parts : items ≡ front ++ item ∷ rest
  pub keep : AllKeep n none_held front
  pub place : line ≡ length front + 1
  pub broken : IsFirstBroken n (held_after none_held front) item rule

-- all rules hold of each of the items, but there is no end: a fault of the line behind the last
pub record IsUnended (n : Net) (items : List Item) (line rule : ℕ) : Type 0 where
  pub keep : AllKeep n none_held items
  pub unended : (held_after none_held items).verdict ≡ None
  pub place : line ≡ length items + 1
  pub rule_is : rule ≡ NO_END

-- the first fault of the items: its line and its rule
abbrev pub IsFault : Net → List Item → ℕ → ℕ → Type 0
IsFault n items line rule = IsFaultAt n items line rule ⊎ IsUnended n items line rule
