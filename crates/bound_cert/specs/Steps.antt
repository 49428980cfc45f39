-- What a step over the bytes returned, and how far the counts of a place have come.
use Rattle.std.specs.Prelude.{ℕ, ◌≡◌, ◌<◌, ◌+◌, ◌^◌, ◌≤◌, List, [], ◌∷◌, length, Option, Some, None, Result, Ok, Err}
use Rattle.service_model.specs.declared.cert.Item.{Item}
use Rattle.bound_cert.specs.declared.fault.FeedStop.{FeedStop}
use Rattle.bound_cert.specs.declared.fault.FeedStop.TheVariants.{Fault, Stopped, NoMemory}
use Rattle.bound_cert.specs.Stream.{Place, Step}

-- one more line can be counted
pub record CanCount (p : Place) : Type 0 where
  pub lines : p.lines < 2 ^ 32
  pub tables : p.tables ≤ p.lines
  pub nodes : p.nodes ≤ p.lines
  pub splits : p.splits ≤ p.lines

-- a step adds at most one line, and no more than a byte
pub record Follows (old new : Place) : Type 0 where
  pub lines : new.lines ≤ old.lines + 1
  pub bytes : new.lines + length new.begun ≤ old.lines + length old.begun + 1
  pub tables : new.tables ≤ new.lines
  pub nodes : new.nodes ≤ new.lines
  pub splits : new.splits ≤ new.lines

-- there came no more lines than bytes, and no more of a kind than lines
pub record Within (p : Place) (fed : ℕ) : Type 0 where
  pub bytes : p.lines + length p.begun ≤ fed
  pub tables : p.tables ≤ p.lines
  pub nodes : p.nodes ≤ p.lines
  pub splits : p.splits ≤ p.lines

-- the items of a step that gives one or none
abbrev pub option_items : Option Item → List Item
option_items None = []
option_items (Some x) = x ∷ []

-- a call returned what the step gives, `items` of it, and a refusal leaves the place
abbrev pub StepGives : {X : Type 0} → (X → List Item) → Place → Place → Step → Result X FeedStop → Type 0
StepGives items old new step (Ok x) = step ≡ Ok (items x, new)
StepGives items old new step (Err (Fault fault)) = (step ≡ Err fault) × (new ≡ old)
StepGives items old new step (Err (Stopped line)) = ⊥
StepGives items old new step (Err NoMemory) = new ≡ old
