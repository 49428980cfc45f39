-- Which bytes are an accepted certificate of a network, and where others are refused.
use Rattle.std.specs.Prelude.{◌≡◌, ◌⊎◌, ℕ, List, Some, Result, Ok, Err, ⊤}
use Rattle.service_model.specs.declared.cert.Verdict.{Verdict}
use Rattle.service_model.specs.Net.{Net}
use Rattle.service_model.specs.Verdicts.{IsTrueOf}
use Rattle.service_model.specs.Held.{none_held, held_after}
use Rattle.service_model.specs.Certs.{AllKeep, IsFaultAt}
use Rattle.bound_cert.specs.Stream.{Place, Reads, start, reads, reads_end, then_reads}
use Rattle.cert_check.specs.declared.check_fault.CheckFault.{CheckFault}
use Rattle.cert_check.specs.declared.check_fault.CheckFault.TheVariants.{Fault, NoMemory}

-- what bytes give from their first to their end: items, and where they end or the first rule on lines that fails
abbrev pub whole : List ℕ → Reads
whole bytes = then_reads (reads bytes start) reads_end

-- the bytes are lines of items on which no rule fails, and the verdict is the one that ends them
pub record IsAcceptedBytes (n : Net) (bytes : List ℕ) (v : Verdict) : Type 0 where
  pub keep : AllKeep n none_held (whole bytes).0
  pub place : Place
  pub read : (whole bytes).1 ≡ Ok place
  pub verdict : (held_after none_held (whole bytes).0).verdict ≡ Some v

-- no rule fails on the items that the bytes give, but behind them a rule on lines fails
pub record IsRefusedBehind (n : Net) (bytes : List ℕ) (line rule : ℕ) : Type 0 where
  pub keep : AllKeep n none_held (whole bytes).0
  pub fault : (whole bytes).1 ≡ Err (record { line = line; rule = rule })

-- the first line of the bytes on which a rule fails, and the first rule that fails on it
abbrev pub IsRefusedBytes : Net → List ℕ → ℕ → ℕ → Type 0
IsRefusedBytes n bytes line rule = IsFaultAt n (whole bytes).0 line rule ⊎ IsRefusedBehind n bytes line rule

-- what a check of bytes answers
abbrev pub ChecksBytes : Net → List ℕ → Result Verdict CheckFault → Type 0
ChecksBytes n bytes (Ok v) = IsAcceptedBytes n bytes v × IsTrueOf n v
ChecksBytes n bytes (Err (Fault f)) = IsRefusedBytes n bytes f.line f.rule
ChecksBytes n bytes (Err NoMemory) = ⊤
