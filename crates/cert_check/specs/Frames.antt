-- The rules on an item that look at nothing but what kinds of items came, and those of its kind.
use Rattle.std.specs.Prelude.{ℕ, ◌==◌, Option, Some, None, MatchBool, ⊤}
use Rattle.service_model.specs.declared.cert_rules.TheConstants.{NETWORK}
use Rattle.service_model.specs.declared.cert.Head.{Head}
use Rattle.service_model.specs.declared.cert.Item.{Item}
use Rattle.service_model.specs.Net.{Net}
use Rattle.service_model.specs.Held.{Held}
use Rattle.service_model.specs.CertRules.{IsHeadOf}
use Rattle.cert_check.specs.Faults.{IsPlaced, IsMisplaced}

-- the first of the rules up to PLACE that fails on the item, none where they hold
abbrev pub IsFrameFault : Net → Held → Item → Option ℕ → Type 0
IsFrameFault n h x None = IsPlaced n h x
IsFrameFault n h x (Some rule) = IsMisplaced n h x rule

-- the rules on a head
abbrev pub HeadRule : Net → Head → ℕ → Type 0
HeadRule n g rule = MatchBool (rule == NETWORK) (IsHeadOf n g) ⊤
