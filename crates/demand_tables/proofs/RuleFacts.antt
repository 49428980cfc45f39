-- A rule that fails at a stage, and one that holds there.
use Rattle.std.proofs.Common.{◌≡◌, ℕ, ◌+◌, ◌<◌, Bool, true, false, Option, Some, None, refl, ◌∙◌}
use Rattle.service_model.specs.Search.{first_below}
use Rattle.service_model.proofs.SearchFacts.{first_below_step, first_below_found}
use Rattle.stage_file.specs.declared.fault.FileFault.{FileFault}
use Rattle.stage_file.specs.declared.fault.FileKind.TheVariants.{Stages}
use Rattle.stage_file.specs.Faults.{fails_if, fault_of}

pub fails : (row rule : ℕ) (test : Bool) → test ≡ true → fails_if Stages row rule 6 test ≡ Some (fault_of Stages row rule 6)
unfolding fails_if
fails row rule true is = refl
fails row rule false is = cc

pub holds : (row rule : ℕ) (test : Bool) → test ≡ false → fails_if Stages row rule 6 test ≡ None
unfolding fails_if
holds row rule false is = refl
holds row rule true is = cc

pub passed : (row rule : ℕ) (test : Bool) → fails_if Stages row rule 6 test ≡ None → test ≡ false
unfolding fails_if
passed row rule false is = refl
passed row rule true is = cc

-- the first stage at which a rule fails
pub first_fails : (f : ℕ → Option FileFault) (n k row rule : ℕ) (test : Bool) → first_below f k ≡ None → k < n → f k ≡ fails_if Stages row rule 6 test → test ≡ true
    → first_below f n ≡ Some (fault_of Stages row rule 6)
first_fails f n k row rule test before within here is =
    first_below_found f n k (fault_of Stages row rule 6) before within (here ∙ fails row rule test is)

-- one more stage at which it holds
pub next_holds : (f : ℕ → Option FileFault) (k row rule : ℕ) (test : Bool) → first_below f k ≡ None → f k ≡ fails_if Stages row rule 6 test → test ≡ false → first_below f (k + 1) ≡ None
next_holds f k row rule test before here is = first_below_step f k before ∙ here ∙ holds row rule test is
