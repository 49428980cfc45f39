-- The first rule that fails on an item.
use Rattle.std.specs.Prelude.{◌≤◌, ℕ, Option, Some, None}
use Rattle.service_model.specs.declared.cert_rules.TheConstants.{PLACE}
use Rattle.service_model.specs.declared.cert.Item.{Item}
use Rattle.service_model.specs.Net.{Net}
use Rattle.service_model.specs.Held.{Held}
use Rattle.service_model.specs.CertRules.{Rule, Keeps}
use Rattle.service_model.specs.Certs.{IsFirstBroken}

-- the first rule that fails on the item, none where all hold
abbrev pub IsFaultOf : Net → Held → Item → Option ℕ → Type 0
IsFaultOf n h x None = Keeps n h x
IsFaultOf n h x (Some rule) = IsFirstBroken n h x rule

-- the rules up to PLACE hold of the item
abbrev pub IsPlaced : Net → Held → Item → Type 0
IsPlaced n h x = (k : ℕ) → k ≤ PLACE → Rule n h x k

-- a rule up to PLACE is the first that fails on the item
pub record IsMisplaced (n : Net) (h : Held) (x : Item) (rule : ℕ) : Type 0 where
  pub early : rule ≤ PLACE
  pub broken : IsFirstBroken n h x rule
