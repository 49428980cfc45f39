-- Items handed to a taker, step by step.
use Rattle.std.proofs.Common.{◌≡◌, ℕ, ◌+◌, length, List, [], ◌∷◌, ◌++◌, Result, Ok, Err, refl, sym, ap, ◌∙◌, subst, arith, append_assoc, append-nil}
use Rattle.service_model.specs.declared.cert.Item.{Item}
use Rattle.service_model.specs.Takers.{Rose, TakerState}
use Rattle.bound_cert.specs.declared.fault.CertFault.{CertFault}
use Rattle.bound_cert.specs.declared.fault.FeedStop.{FeedStop}
use Rattle.bound_cert.specs.declared.fault.FeedStop.TheVariants.{Fault, Stopped, NoMemory}
use Rattle.bound_cert.specs.Stream.{Place, Step, Reads, go_on, behind}
use Rattle.bound_cert.specs.Feeding.{Feeds, Stepped, Closes}
use Rattle.bound_cert.proofs.StreamFacts.{CountsLines, behind_again}

-- these items were taken, and no take was refused
pub record Took (old new : TakerState) (items : List Item) : Type 0 where
  pub stands : (before : List Item) → old.stands before → new.stands (before ++ items)
  pub stops : new.stops ≡ old.stops

pub took_none : (s : TakerState) → Took s s []
took_none s = record { stands = λ before h. subst s.stands (sym (append-nil before)) h; stops = refl }

pub took_more : (s t u : TakerState) (taken items : List Item) → Took s t taken → u.stops ≡ t.stops
    → ((before : List Item) → t.stands before → u.stands (before ++ items)) → Took s u (taken ++ items)
took_more s t u taken items took stops stands = record {
  stands = λ before h. subst u.stands (append_assoc before taken items) (stands (before ++ taken) (took.stands before h));
  stops = stops ∙ took.stops;
}

-- what is read goes on behind one more step
pub step_on : (all : Reads) (taken items : List Item) (more : Place → Reads) (step : Step) (q : Place)
    → all ≡ behind taken (go_on more step) → step ≡ Ok (items, q) → all ≡ behind (taken ++ items) (more q)
step_on all taken items more step q same read =
    same ∙ ap (λ (r : Step). behind taken (go_on more r)) read ∙ behind_again taken items (more q)

fault_ends : (all : Reads) (taken : List Item) (more : Place → Reads) (step : Step) (fault : CertFault)
    → all ≡ behind taken (go_on more step) → step ≡ Err fault → all ≡ (taken, Err fault)
fault_ends all taken more step fault same read =
    same ∙ ap (λ (r : Step). behind taken (go_on more r)) read
    ∙ ap (λ (xs : List Item). let r : Reads = (xs, Err fault) in r) (append-nil taken)

all_taken : (all : Reads) (taken : List Item) → all.0 ≡ taken → all.0 ≡ taken ++ []
all_taken all taken e = e ∙ sym (append-nil taken)

-- a refused step ends the handing
pub refused_step : (all : Reads) (taken : List Item) (more : Place → Reads) (step : Step) (p q : Place) (lines : ℕ) (s t u : TakerState) (why : FeedStop)
    → all ≡ behind taken (go_on more step) → CountsLines p step → p.lines ≡ lines + length taken → Took s t taken
    → Stepped t u q step (Err why) → Feeds all s u lines q (Err why)
refused_step all taken more step p q lines s t u (Fault fault) same counts here took (read, stops, stands) =
    let ended = fault_ends all taken more step fault same read in
    record {
      hands = record {
        taken = taken;
        left = [];
        parts = all_taken all taken (ap (λ (r : Reads). r.0) ended);
        stands = λ before h. stands _ (took.stands before h);
        later = omega (arith, stops, took.stops);
        ends = (refl, stops ∙ took.stops);
      };
      ends = ap (λ (r : Reads). r.1) ended;
      stops = tt;
    }
refused_step all taken more step p q lines s t u (Stopped line) same counts here took (item, read, at, later, stopped, stands) =
    let ended = same ∙ ap (λ (r : Step). behind taken (go_on more r)) read in
    record {
      hands = record {
        taken = taken;
        left = item ∷ (more q).0;
        parts = ap (λ (r : Reads). r.0) ended;
        stands = λ before h. stands _ (took.stands before h);
        later = omega (arith, later, took.stops);
        ends = (
          item,
          (more q).0,
          refl,
          record {
            rose = subst (λ (k : ℕ). Rose k u.stops) took.stops stopped.rose;
            refused = λ none. stopped.refused (took.stops ∙ none);
          },
        );
      };
      ends = tt;
      stops = omega (arith, at, counts (item ∷ []) q read, here);
    }
refused_step all taken more step p q lines s t u NoMemory same counts here took (later, stands) = record {
  hands = record {
    taken = taken;
    left = (go_on more step).0;
    parts = ap (λ (r : Reads). r.0) same;
    stands = λ before h. stands _ (took.stands before h);
    later = omega (arith, later, took.stops);
    ends = tt;
  };
  ends = tt;
  stops = tt;
}

-- where all bytes are read, all their items were taken
pub all_read : (all : Reads) (taken : List Item) (q : Place) (lines : ℕ) (s t : TakerState)
    → all ≡ behind taken ([], Ok q) → Took s t taken → Feeds all s t lines q (Ok tt)
all_read all taken q lines s t same took =
    record {
      hands = record {
        taken = taken;
        left = [];
        parts = ap (λ (r : Reads). r.0) same;
        stands = took.stands;
        later = omega (arith, took.stops);
        ends = (refl, took.stops);
      };
      ends = ap (λ (r : Reads). r.1) same;
      stops = tt;
    }

-- the end of the bytes ends the handing, with or without a fault
pub closed_behind : (all : Reads) (taken : List Item) (closing : Reads) (q : Place) (lines : ℕ) (s t : TakerState) (result : Result (Unit {0}) FeedStop)
    → all ≡ behind taken closing → Took s t taken → Closes q closing result → Feeds all s t lines q result
closed_behind all taken closing q lines s t (Ok u) same took closes =
    all_read all taken q lines s t (same ∙ ap (behind taken) closes) took
closed_behind all taken closing q lines s t (Err (Fault fault)) same took closes =
    let ended = same ∙ ap (behind taken) closes in
    record {
      hands = record {
        taken = taken;
        left = [];
        parts = ap (λ (r : Reads). r.0) ended;
        stands = took.stands;
        later = omega (arith, took.stops);
        ends = (refl, took.stops);
      };
      ends = ap (λ (r : Reads). r.1) ended;
      stops = tt;
    }
closed_behind all taken closing q lines s t (Err (Stopped line)) same took closes = absurd closes
closed_behind all taken closing q lines s t (Err NoMemory) same took closes = absurd closes
