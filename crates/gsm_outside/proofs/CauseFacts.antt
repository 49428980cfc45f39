-- What a shelf or a sink that tells nothing owes to its trait.
use Rattle.std.proofs.Common.{◌≡◌, ℕ, Result, Ok, Err, IfOk, IfErr, arith}
use Rattle.std.proofs.lemmas.Bool.Decides.{nat_tests}
use Rattle.gsm_outside.specs.declared.fault.OutFault.{OutFault}
use Rattle.gsm_outside.specs.declared.fault.OutFault.TheVariants.{Failed, NoMemory}
use Rattle.gsm_outside.specs.Causes.{HasCause, count_after}

-- a count that is one more exactly after `Failed` shows the cause
pub counted_cause : {T : Type 0} (before now : ℕ) (result : Result T OutFault)
    → now ≡ count_after before result → HasCause before now result
counted_cause before now (Ok _) counted =
    record { later = grind (arith, nat_tests); failed = grind (arith, nat_tests); kept = counted }
counted_cause before now (Err Failed) counted =
    record { later = grind (arith, nat_tests); failed = grind (arith, nat_tests); kept = tt }
counted_cause before now (Err NoMemory) counted =
    record { later = grind (arith, nat_tests); failed = grind (arith, nat_tests); kept = tt }

-- what holds of each value holds of that of an Ok
pub at_ok : {T E : Type 0} {P : T → Type 0} (result : Result T E) → ((value : T) → P value) → IfOk result P
at_ok (Ok value) holds = holds value
at_ok (Err _) holds = tt

-- what holds of each fault holds of that of an Err
pub at_err : {T E : Type 0} {P : E → Type 0} (result : Result T E) → ((fault : E) → P fault) → IfErr result P
at_err (Ok _) holds = tt
at_err (Err fault) holds = holds fault
