-- A checker of certificates as contracts see it, and what a take does to it.
use Rattle.std.specs.Prelude.{◌≡◌, ◌⊎◌, ℕ, ◌+◌, ◌-◌, ◌^◌, min, List, Option, Some, None, Result, Ok, Err}
use Rattle.service_model.specs.declared.cert.Item.{Item}
use Rattle.service_model.specs.declared.taker.TakeStop.{TakeStop}
use Rattle.service_model.specs.declared.taker.TakeStop.TheVariants.{Stopped, NoMemory}
use Rattle.service_model.specs.Net.{Net}
use Rattle.service_model.specs.Held.{Held, none_held, held_with, held_after}
use Rattle.service_model.specs.CertRules.{Keeps}
use Rattle.service_model.specs.Certs.{IsFirstBroken, AllKeep}

-- the network, what came of the certificate, the first rule that failed, and how many takes were refused
pub record Checking : Type 0 where
  pub network : Net
  pub held : Held
  pub fault : Option ℕ
  pub stops : ℕ

-- nothing came yet
abbrev pub new_checking : Net → Checking
new_checking n = record { network = n; held = none_held; fault = None; stops = 0 }

-- all these items came, and no rule fails on any
pub record StandsFor (c : Checking) (items : List Item) : Type 0 where
  pub came : c.held ≡ held_after none_held items
  pub keep : AllKeep c.network none_held items

-- a rule fails on the item, and is the one that is kept
pub record Refuses (c : Checking) (x : Item) : Type 0 where
  pub rule : ℕ
  pub kept : c.fault ≡ Some rule
  pub first : IsFirstBroken c.network c.held x rule

-- no rule fails on the item, and it is behind those that came
pub record IsTaken (old new : Checking) (x : Item) : Type 0 where
  pub unfailed : old.fault ≡ None
  pub keeps : Keeps old.network old.held x
  pub more : new ≡ record old { held = held_with old.held x }

-- a take is refused: nothing came, and one more stop is counted
pub record IsStopped (old new : Checking) (x : Item) : Type 0 where
  pub network : new.network ≡ old.network
  pub held : new.held ≡ old.held
  pub stops : new.stops ≡ min (old.stops + 1) (2 ^ 64 - 1)
  pub cause : ((rule : ℕ) × (old.fault ≡ Some rule) × (new.fault ≡ Some rule)) ⊎ ((old.fault ≡ None) × Refuses new x)

-- what a take does: `Stopped` comes exactly where a rule fails on the item, or one failed before
abbrev pub Takes : Checking → Checking → Item → Result (Unit {0}) TakeStop → Type 0
Takes old new x (Ok u) = IsTaken old new x
Takes old new x (Err Stopped) = IsStopped old new x
Takes old new x (Err NoMemory) = new ≡ old
