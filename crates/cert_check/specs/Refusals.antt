-- The refusal of a reader and its checker.
use Rattle.std.specs.Prelude.{ℕ, Option, Some, None, IsSome, ⊤}
use Rattle.bound_cert.specs.declared.fault.FeedStop.{FeedStop}
use Rattle.bound_cert.specs.declared.fault.FeedStop.TheVariants as stops
use Rattle.cert_check.specs.declared.check_fault.CheckFault.{CheckFault}
use Rattle.cert_check.specs.declared.check_fault.CheckFault.TheVariants.{Fault, NoMemory}

-- where the checker refused an item, it has a rule
abbrev pub HasRule : FeedStop → Option ℕ → Type 0
HasRule (stops.Fault f) rule = ⊤
HasRule (stops.Stopped line) rule = IsSome rule
HasRule stops.NoMemory rule = ⊤

-- the reader's fault, or the checker's on the line that it refused
abbrev pub refusal_by : FeedStop → Option ℕ → CheckFault
refusal_by (stops.Fault f) rule = Fault f
refusal_by (stops.Stopped line) (Some rule) = Fault (record { line = line; rule = rule })
refusal_by (stops.Stopped line) None = NoMemory
refusal_by stops.NoMemory rule = NoMemory
