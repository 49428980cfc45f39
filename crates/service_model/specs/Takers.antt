-- What a take does to a taker and its world, and what a call does that hands items to one.
use Rattle.std.specs.Prelude.{◌≡◌, ◌≤◌, ℕ, ◌+◌, ◌-◌, ◌^◌, min, List, [], ◌∷◌, ◌++◌, Option, Some, None, Result, Ok, Err, OnOk, IsErrOf, ⊤}
use Rattle.service_model.specs.declared.cert.Item.{Item}
use Rattle.service_model.specs.declared.taker.TakeStop.{TakeStop}
use Rattle.service_model.specs.declared.taker.TakeStop.TheVariants.{Stopped, NoMemory}

-- a count rose, or stands at its last value
abbrev pub Rose : ℕ → ℕ → Type 0
Rose before now = min (before + 1) (2 ^ 64 - 1) ≤ now

-- what the taker stands for after a take: the item is behind the others where it was taken
abbrev pub with_taken : Result (Unit {0}) TakeStop → List Item → Item → List Item
with_taken (Ok u) items item = items ++ item ∷ []
with_taken (Err stop) items item = items

-- the count of stops never falls, `Stopped` comes only where it rose, and an Ok leaves it
pub record CountsStops (before now : ℕ) (result : Result (Unit {0}) TakeStop) : Type 0 where
  pub later : before ≤ now
  pub stopped : IsErrOf result Stopped → Rose before now
  pub kept : OnOk result (now ≡ before)

-- a taker with its world at a moment: the lists that it stands for, its stops, and the items that it refuses
pub record TakerState : Type 1 where
  pub stands : List Item → Type 0
  pub stops : ℕ
  pub refuses : Item → Type 0

-- a taker's state by its three meanings
abbrev pub state_of : (List Item → Type 0) → ℕ → (Item → Type 0) → TakerState
state_of stands stops refuses = record { stands = stands; stops = stops; refuses = refuses }

-- the taker stopped at an item: its count of stops rose, and if it was 0 before, it refuses the item
pub record StopsAt (old new : TakerState) (item : Item) : Type 0 where
  pub rose : Rose old.stops new.stops
  pub refused : old.stops ≡ 0 → new.refuses item

-- how handing items ended: all were taken, or the first that is left was refused, or memory did not suffice
abbrev pub HandsEnd : TakerState → TakerState → List Item → Option TakeStop → Type 0
HandsEnd old new left None = (left ≡ []) × (new.stops ≡ old.stops)
HandsEnd old new left (Some Stopped) = (item : Item) × (rest : List Item) × (left ≡ item ∷ rest) × StopsAt old new item
HandsEnd old new left (Some NoMemory) = ⊤

-- a call hands the first of these items, one after another, and makes no take after a refused one
pub record Hands (items : List Item) (old new : TakerState) (stop : Option TakeStop) : Type 0 where
  pub taken : List Item
  pub left : List Item
  pub parts : items ≡ taken ++ left
  pub stands : (before : List Item) → old.stands before → new.stands (before ++ taken)
  pub later : old.stops ≤ new.stops
  pub ends : HandsEnd old new left stop
