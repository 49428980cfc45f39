-- Reading step by step: the first refusal ends it.
use Rattle.std.specs.Prelude.{◌≡◌, Option, Some, None, Result, Ok, Err, ⊤}
use Rattle.bound_cert.specs.declared.line.Refusal.{Refusal}
use Rattle.bound_cert.specs.declared.line.Refusal.TheVariants.{Shape}
use Rattle.bound_cert.specs.declared.line.LineStop.{LineStop}
use Rattle.bound_cert.specs.declared.line.LineStop.TheVariants.{Refused, NoMemory}

infixl 10 ◌>>=◌
-- what was read goes on to the next step
abbrev pub ◌>>=◌ : {A B : Type 0} → Result A Refusal → (A → Result B Refusal) → Result B Refusal
(Ok x) >>= f = f x
(Err why) >>= f = Err why

-- a value of the wrong shape is refused
abbrev pub shaped : {A : Type 0} → Option A → Result A Refusal
shaped None = Err Shape
shaped (Some x) = Ok x

-- the call stopped as reading does, or memory did not suffice
abbrev pub Fails : {Y : Type 0} → LineStop → Result Y Refusal → Type 0
Fails NoMemory read = ⊤
Fails (Refused why) read = read ≡ Err why

-- what a call returned, seen by `see`, is what reading gives, unless memory did not suffice
abbrev pub Gives : {X Y : Type 0} → (X → Y) → Result X LineStop → Result Y Refusal → Type 0
Gives see (Ok x) read = read ≡ Ok (see x)
Gives see (Err stop) read = Fails stop read
