-- What a call did that hands the items of bytes to a taker.
use Rattle.std.specs.Prelude.{ℕ, ◌≡◌, ◌≤◌, ◌+◌, List, [], ◌∷◌, ◌++◌, length, Option, Some, None, Result, Ok, Err, ⊤}
use Rattle.service_model.specs.declared.cert.Item.{Item}
use Rattle.service_model.specs.declared.taker.TakeStop.{TakeStop}
use Rattle.service_model.specs.declared.taker.TakeStop.TheVariants as takes
use Rattle.service_model.specs.Takers.{TakerState, StopsAt, Hands}
use Rattle.bound_cert.specs.declared.fault.CertFault.{CertFault}
use Rattle.bound_cert.specs.declared.fault.FeedStop.{FeedStop}
use Rattle.bound_cert.specs.declared.fault.FeedStop.TheVariants.{Fault, Stopped, NoMemory}
use Rattle.bound_cert.specs.Stream.{Place, Step, Reads}

-- the refusal of a take with which a call ended, none where all takes answered Ok
abbrev pub take_stop : Result (Unit {0}) FeedStop → Option TakeStop
take_stop (Ok u) = None
take_stop (Err (Fault fault)) = None
take_stop (Err (Stopped line)) = Some takes.Stopped
take_stop (Err NoMemory) = Some takes.NoMemory

-- how the bytes ended, where all their items were taken: at a place, or with the first fault
abbrev pub BytesEnd : Result Place CertFault → Place → Result (Unit {0}) FeedStop → Type 0
BytesEnd end place (Ok u) = end ≡ Ok place
BytesEnd end place (Err (Fault fault)) = end ≡ Err fault
BytesEnd end place (Err (Stopped line)) = ⊤
BytesEnd end place (Err NoMemory) = ⊤

-- the line whose item was refused is the next after so many
abbrev pub StopsAfter : ℕ → Result (Unit {0}) FeedStop → Type 0
StopsAfter lines (Ok u) = ⊤
StopsAfter lines (Err (Fault fault)) = ⊤
StopsAfter lines (Err (Stopped line)) = line ≡ lines + 1
StopsAfter lines (Err NoMemory) = ⊤

-- the items that the bytes give behind so many lines were handed to the taker, up to one that it refused or to the first fault
pub record Feeds (all : Reads) (old new : TakerState) (lines : ℕ) (place : Place) (result : Result (Unit {0}) FeedStop) : Type 0 where
  pub hands : Hands all.0 old new (take_stop result)
  pub ends : BytesEnd all.1 place result
  pub stops : StopsAfter (lines + length hands.taken) result

-- one step: its items, at most one, were taken, or it was refused, or the step has a fault
abbrev pub Stepped : TakerState → TakerState → Place → Step → Result (Unit {0}) FeedStop → Type 0
Stepped old new place step (Ok u) =
    (items : List Item) × (step ≡ Ok (items, place)) × (new.stops ≡ old.stops)
    × ((before : List Item) → old.stands before → new.stands (before ++ items))
Stepped old new place step (Err (Fault fault)) =
    (step ≡ Err fault) × (new.stops ≡ old.stops) × ((before : List Item) → old.stands before → new.stands before)
Stepped old new place step (Err (Stopped line)) =
    (item : Item) × (step ≡ Ok (item ∷ [], place)) × (line ≡ place.lines) × (old.stops ≤ new.stops) × StopsAt old new item
    × ((before : List Item) → old.stands before → new.stands before)
Stepped old new place step (Err NoMemory) =
    (old.stops ≤ new.stops) × ((before : List Item) → old.stands before → new.stands before)

-- the end of the bytes gives nothing, or the fault that there is no end
abbrev pub Closes : Place → Reads → Result (Unit {0}) FeedStop → Type 0
Closes place read (Ok u) = read ≡ ([], Ok place)
Closes place read (Err (Fault fault)) = read ≡ ([], Err fault)
Closes place read (Err (Stopped line)) = ⊥
Closes place read (Err NoMemory) = ⊥
