-- Bytes that are handed to a taker in one piece, and then ended.
use Rattle.std.proofs.Common.{◌≡◌, ℕ, ◌+◌, List, [], ◌∷◌, ◌++◌, length, Option, Some, None, Result, Ok, Err, refl, sym, ap, ◌∙◌, subst, arith, append_assoc, append-nil, length-append}
use Rattle.service_model.specs.declared.cert.Item.{Item}
use Rattle.service_model.specs.declared.taker.TakeStop.{TakeStop}
use Rattle.service_model.specs.declared.taker.TakeStop.TheVariants as takes
use Rattle.service_model.specs.Takers.{Rose, TakerState, HandsEnd}
use Rattle.bound_cert.specs.declared.fault.CertFault.{CertFault}
use Rattle.bound_cert.specs.declared.fault.FeedStop.{FeedStop}
use Rattle.bound_cert.specs.declared.fault.FeedStop.TheVariants.{Fault, Stopped, NoMemory}
use Rattle.bound_cert.specs.Stream.{Place, Step, Reads, read_byte, go_on, behind, reads, then_reads}
use Rattle.bound_cert.specs.Feeding.{take_stop, BytesEnd, StopsAfter, Feeds}
use Rattle.bound_cert.proofs.StreamFacts.{CountsLines, read_byte_counts}

-- what is read counts a line for each of its items
abbrev CountsItems : Place → Reads → Type 0
CountsItems p r = (q : Place) → r.1 ≡ Ok q → q.lines ≡ p.lines + length r.0

same_place : (p q : Place) → (let r : Result Place CertFault = Ok p in r) ≡ Ok q → p ≡ q
same_place p q e = cc

step_counts : (p : Place) (more : Place → Reads) (step : Step) → CountsLines p step → ((q : Place) → CountsItems q (more q)) → CountsItems p (go_on more step)
step_counts p more (Ok x) counted later = λ q e.
    omega (arith, later x.1 q e, counted x.0 x.1 refl, length-append x.0 (more x.1).0)
step_counts p more (Err fault) counted later = λ q e. cc

pub reads_count : (bytes : List ℕ) (p : Place) → CountsItems p (reads bytes p)
reads_count [] p = λ q e. omega (arith, ap (λ (r : Place). r.lines) (same_place p q e))
reads_count (b ∷ bytes) p = step_counts p (reads bytes) (read_byte p b) (read_byte_counts p b) (reads_count bytes)

-- what is read begins with the items that were read first
abbrev GoesOn : Reads → Reads → Type 0
GoesOn r more = (rest : List Item) × (more.0 ≡ r.0 ++ rest)

goes_on : (r : Reads) (more : Place → Reads) → GoesOn r (then_reads r more)
goes_on (items, Ok p) more = ((more p).0, refl)
goes_on (items, Err fault) more = ([], sym (append-nil items))

after_fault : (r : Reads) (more : Place → Reads) (fault : CertFault) → r.1 ≡ Err fault → then_reads r more ≡ r
after_fault (items, Ok p) more fault e = cc
after_fault (items, Err other) more fault e = refl

after_place : (r : Reads) (more : Place → Reads) (p : Place) → r.1 ≡ Ok p → then_reads r more ≡ behind r.0 (more p)
after_place (items, Ok q) more p e = ap (λ (r : Place). behind items (more r)) (same_place q p e)
after_place (items, Err fault) more p e = cc

-- a piece whose handing ended early ends the handing of all
pub ends_early : (r : Reads) (more : Place → Reads) (s t : TakerState) (lines : ℕ) (p : Place) (stop : FeedStop) → Feeds r s t lines p (Err stop)
    → Feeds (then_reads r more) s t lines p (Err stop)
ends_early r more s t lines p (Fault fault) feeds = subst (λ (all : Reads). Feeds all s t lines p (Err (Fault fault))) (sym (after_fault r more fault feeds.ends)) feeds
ends_early r more s t lines p (Stopped line) feeds =
    let (rest, is) = goes_on r more in
    let (item, left, here, at) = feeds.hands.ends in
    record {
      hands = record {
        taken = feeds.hands.taken;
        left = feeds.hands.left ++ rest;
        parts = is ∙ ap (λ (xs : List Item). xs ++ rest) feeds.hands.parts ∙ append_assoc feeds.hands.taken feeds.hands.left rest;
        stands = feeds.hands.stands;
        later = feeds.hands.later;
        ends = (item, left ++ rest, ap (λ (xs : List Item). xs ++ rest) here, at);
      };
      ends = tt;
      stops = feeds.stops;
    }
ends_early r more s t lines p NoMemory feeds =
    let (rest, is) = goes_on r more in
    record {
      hands = record {
        taken = feeds.hands.taken;
        left = feeds.hands.left ++ rest;
        parts = is ∙ ap (λ (xs : List Item). xs ++ rest) feeds.hands.parts ∙ append_assoc feeds.hands.taken feeds.hands.left rest;
        stands = feeds.hands.stands;
        later = feeds.hands.later;
        ends = tt;
      };
      ends = tt;
      stops = tt;
    }

-- how the handing ended does not depend on where it began, if no take was refused before
same_ends : (s t u : TakerState) (left : List Item) (stop : Option TakeStop) → t.stops ≡ s.stops → HandsEnd t u left stop → HandsEnd s u left stop
same_ends s t u left None same (none, stops) = (none, stops ∙ same)
same_ends s t u left (Some takes.Stopped) same (item, rest, here, at) = (
  item,
  rest,
  here,
  record { rose = subst (λ (k : ℕ). Rose k u.stops) same at.rose; refused = λ none. at.refused (same ∙ none) },
)
same_ends s t u left (Some takes.NoMemory) same ends = tt

same_stop : (a b : ℕ) (result : Result (Unit {0}) FeedStop) → a ≡ b → StopsAfter a result → StopsAfter b result
same_stop a b result same stops = subst (λ (k : ℕ). StopsAfter k result) same stops

behind_ends : (items : List Item) (r : Reads) (q : Place) (result : Result (Unit {0}) FeedStop) → BytesEnd r.1 q result → BytesEnd (behind items r).1 q result
behind_ends items r q result ends = ends

-- behind a piece that was all taken comes what its place gives
pub goes_on_feeding : (r : Reads) (more : Place → Reads) (s t u : TakerState) (lines : ℕ) (p q : Place) (result : Result (Unit {0}) FeedStop)
    → Feeds r s t lines p (Ok tt) → p.lines ≡ lines + length r.0 → Feeds (more p) t u p.lines q result → Feeds (then_reads r more) s u lines q result
goes_on_feeding r more s t u lines p q result first counted second =
    let same : t.stops ≡ s.stops = first.hands.ends.1 in
    let all : r.0 ≡ first.hands.taken = first.hands.parts ∙ ap (λ (xs : List Item). first.hands.taken ++ xs) first.hands.ends.0 ∙ append-nil first.hands.taken in
    let together : Feeds (behind r.0 (more p)) s u lines q result = record {
      hands = record {
        taken = first.hands.taken ++ second.hands.taken;
        left = second.hands.left;
        parts = ap (λ (xs : List Item). xs ++ (more p).0) all ∙ ap (λ (xs : List Item). first.hands.taken ++ xs) second.hands.parts
            ∙ sym (append_assoc first.hands.taken second.hands.taken second.hands.left);
        stands = λ before stands.
            subst u.stands (append_assoc before first.hands.taken second.hands.taken) (second.hands.stands _ (first.hands.stands before stands));
        later = omega (arith, second.hands.later, same);
        ends = same_ends s t u second.hands.left (take_stop result) same second.hands.ends;
      };
      ends = second.ends;
      stops = same_stop (p.lines + length second.hands.taken) (lines + length (first.hands.taken ++ second.hands.taken)) result
          (omega (arith, counted, ap length all, length-append first.hands.taken second.hands.taken)) second.stops;
    } in
    subst (λ (all : Reads). Feeds all s u lines q result) (sym (after_place r more p first.ends)) together
