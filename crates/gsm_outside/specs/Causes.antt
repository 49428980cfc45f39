-- What a count of faults says of a call.
use Rattle.std.specs.Prelude.{◌≡◌, ◌≤◌, ℕ, ◌+◌, ◌-◌, ◌^◌, min, Bool, true, false, if◌then◌else◌, nat_lt, Result, Ok, Err, IsErrOf, OnOk}
use Rattle.gsm_outside.specs.declared.fault.OutFault.{OutFault}
use Rattle.gsm_outside.specs.declared.fault.OutFault.TheVariants.{Failed, NoMemory}

-- a count rose, or stands at its last value
abbrev pub Rose : ℕ → ℕ → Type 0
Rose before now = min (before + 1) (2 ^ 64 - 1) ≤ now

-- the count never falls, `Failed` comes only where it rose, and an Ok leaves it
pub record HasCause {T : Type 0} (before now : ℕ) (result : Result T OutFault) : Type 0 where
  pub later : before ≤ now
  pub failed : IsErrOf result Failed → Rose before now
  pub kept : OnOk result (now ≡ before)

-- the answer is `Failed`
abbrev pub is_failed : {T : Type 0} → Result T OutFault → Bool
is_failed (Err Failed) = true
is_failed (Err NoMemory) = false
is_failed (Ok _) = false

-- one more, but a count stays at its last value
abbrev pub next_count : ℕ → ℕ
next_count count = if nat_lt count (2 ^ 64 - 1) then count + 1 else count

-- a count of the calls that failed, after a call with this answer
abbrev pub count_after : {T : Type 0} → ℕ → Result T OutFault → ℕ
count_after before result = if is_failed result then next_count before else before
