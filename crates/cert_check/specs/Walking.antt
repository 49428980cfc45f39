-- A walk over the lines of a certificate.
use Rattle.std.specs.Prelude.{◌≡◌, ℕ, List, ◌++◌, length, All, None, Result, Ok, Err, ⊤}
use Rattle.service_model.specs.declared.cert.Item.{Item}
use Rattle.bound_cert.specs.Laws.{IsShort}
use Rattle.cert_check.specs.declared.check_fault.CheckFault.{CheckFault}
use Rattle.cert_check.specs.declared.check_fault.CheckFault.TheVariants.{Fault, NoMemory}
use Rattle.cert_check.specs.Checking.{Checking, StandsFor}
use Rattle.cert_check.specs.Written.{IsRefusedLine}

-- a checker, and how many lines came
pub record Walking : Type 0 where
  pub checking : Checking
  pub lines : ℕ

-- the lines of these items came, and no rule fails on them
pub record HasWalked (w : Walking) (items : List Item) : Type 0 where
  pub stands : StandsFor w.checking items
  pub unfailed : w.checking.fault ≡ None
  pub short : All IsShort items
  pub counted : w.lines ≡ length items

-- the lines of more items come, up to the first on which a rule fails
abbrev pub Walks : Walking → Walking → List Item → Result (Unit {0}) CheckFault → Type 0
Walks old new items (Ok u) =
    (new.checking.network ≡ old.checking.network) × ((before : List Item) → HasWalked old before → HasWalked new (before ++ items))
Walks old new items (Err (Fault f)) =
    (before : List Item) → HasWalked old before → IsRefusedLine old.checking.network (before ++ items) f.line f.rule
Walks old new items (Err NoMemory) = ⊤
