-- What a checker's answer to bytes says of them.
use Rattle.std.proofs.Common.{◌≡◌, ℕ, List, [], ◌++◌, Option, Some, IsSome, is_some, Result, Ok, Err, refl, sym, ap, ◌∙◌, subst, inl, inr, arith, append-nil}
use Rattle.service_model.specs.declared.cert.Verdict.{Verdict}
use Rattle.service_model.specs.declared.cert.Item.{Item}
use Rattle.service_model.specs.Net.{Net}
use Rattle.service_model.specs.Takers.{TakerState, state_of}
use Rattle.service_model.specs.Held.{Held, none_held, held_after}
use Rattle.service_model.specs.Certs.{IsFirstBroken, AllKeep}
use Rattle.bound_cert.specs.declared.fault.CertFault.{CertFault}
use Rattle.bound_cert.specs.declared.fault.FeedStop.{FeedStop}
use Rattle.bound_cert.specs.declared.fault.FeedStop.TheVariants.{Fault, Stopped, NoMemory}
use Rattle.bound_cert.specs.Stream.{Place}
use Rattle.bound_cert.specs.Feeding.{Feeds}
use Rattle.cert_check.specs.Checking.{Checking, new_checking, StandsFor, Refuses}
use Rattle.cert_check.specs.Refusals.{HasRule, refusal_by}
use Rattle.cert_check.specs.Bytes.{whole, IsAcceptedBytes, IsRefusedBytes, ChecksBytes}
use Rattle.cert_check.proofs.EndedFacts.{whole_ends}

-- a checker as a taker
abbrev pub seen : Checking → TakerState
seen c = state_of (StandsFor c) c.stops (Refuses c)

-- what came of the bytes to a new checker
abbrev pub Fed : Net → List ℕ → Checking → Place → Result (Unit {0}) FeedStop → Type 0
Fed n bytes now place result = Feeds (whole bytes) (seen (new_checking n)) (seen now) 0 place result

pub none_came : (n : Net) → StandsFor (new_checking n) []
none_came n = record { came = refl; keep = tt }

-- the items that were taken passed
taken_passed : (n : Net) (bytes : List ℕ) (now : Checking) (place : Place) (result : Result (Unit {0}) FeedStop) (fed : Fed n bytes now place result)
    → StandsFor now fed.hands.taken
taken_passed n bytes now place result fed = fed.hands.stands [] (none_came n)

kept_of : (n : Net) (now : Checking) (items : List Item) → now.network ≡ n → StandsFor now items → AllKeep n none_held items
kept_of n now items same stands = subst (λ (m : Net). AllKeep m none_held items) same stands.keep

all_of : (xs taken left : List Item) → xs ≡ taken ++ left → left ≡ [] → taken ≡ xs
all_of xs taken left parts none = sym (parts ∙ ap (λ (ys : List Item). taken ++ ys) none ∙ append-nil taken)

fault_refused : (n : Net) (bytes : List ℕ) (now : Checking) (place : Place) (f : CertFault) → now.network ≡ n → Fed n bytes now place (Err (Fault f))
    → IsRefusedBytes n bytes f.line f.rule
fault_refused n bytes now place f same fed =
    let all = all_of (whole bytes).0 fed.hands.taken fed.hands.left fed.hands.parts fed.hands.ends.0 in
    inr (record {
      keep = subst (AllKeep n none_held) all (kept_of n now fed.hands.taken same (taken_passed n bytes now place (Err (Fault f)) fed));
      fault = fed.ends;
    })

refused_at : (n : Net) (bytes : List ℕ) (now : Checking) (place : Place) (line : ℕ) → now.network ≡ n → Fed n bytes now place (Err (Stopped line))
    → (rule : ℕ) × (now.fault ≡ Some rule) × IsRefusedBytes n bytes line rule
refused_at n bytes now place line same fed =
    let stands = taken_passed n bytes now place (Err (Stopped line)) fed in
    let (item, rest, here, at) = fed.hands.ends in
    let refused = at.refused refl in
    let there = subst (λ (h : Held). IsFirstBroken now.network h item refused.rule) stands.came refused.first in (
      refused.rule,
      refused.kept,
      inl (record {
        front = fed.hands.taken;
        item = item;
        rest = rest;
        parts = fed.hands.parts ∙ ap (λ (xs : List Item). fed.hands.taken ++ xs) here;
        keep = kept_of n now fed.hands.taken same stands;
        broken = subst (λ (m : Net). IsFirstBroken m (held_after none_held fed.hands.taken) item refused.rule) same there;
        place = omega (arith, fed.stops);
      }),
    )

pub has_rule : (n : Net) (bytes : List ℕ) (now : Checking) (place : Place) (stop : FeedStop) → now.network ≡ n → Fed n bytes now place (Err stop) → HasRule stop now.fault
has_rule n bytes now place (Fault f) same fed = tt
has_rule n bytes now place (Stopped line) same fed = ap is_some (refused_at n bytes now place line same fed).1
has_rule n bytes now place NoMemory same fed = tt

pub refused : (n : Net) (bytes : List ℕ) (now : Checking) (place : Place) (stop : FeedStop) → now.network ≡ n → Fed n bytes now place (Err stop)
    → ChecksBytes n bytes (Err (refusal_by stop now.fault))
refused n bytes now place (Fault f) same fed = fault_refused n bytes now place f same fed
refused n bytes now place (Stopped line) same fed =
    let (rule, kept, at) = refused_at n bytes now place line same fed in
    subst (λ (fault : Option ℕ). ChecksBytes n bytes (Err (refusal_by (Stopped line) fault))) (sym kept) at
refused n bytes now place NoMemory same fed = tt

all_taken : (n : Net) (bytes : List ℕ) (now : Checking) (place : Place) → now.network ≡ n → Fed n bytes now place (Ok tt)
    → (now.held ≡ held_after none_held (whole bytes).0) × AllKeep n none_held (whole bytes).0
all_taken n bytes now place same fed =
    let stands = taken_passed n bytes now place (Ok tt) fed in
    let all = all_of (whole bytes).0 fed.hands.taken fed.hands.left fed.hands.parts fed.hands.ends.0 in
    (stands.came ∙ ap (held_after none_held) all, subst (AllKeep n none_held) all (kept_of n now fed.hands.taken same stands))

pub accepted : (n : Net) (bytes : List ℕ) (now : Checking) (place : Place) (v : Verdict) → now.network ≡ n → Fed n bytes now place (Ok tt) → now.held.verdict ≡ Some v
    → IsAcceptedBytes n bytes v
accepted n bytes now place v same fed has =
    let (came, keep) = all_taken n bytes now place same fed in
    record { keep = keep; place = place; read = fed.ends; verdict = ap (λ (h : Held). h.verdict) (sym came) ∙ has }

pub has_verdict : (n : Net) (bytes : List ℕ) (now : Checking) (place : Place) → now.network ≡ n → Fed n bytes now place (Ok tt) → IsSome now.held.verdict
has_verdict n bytes now place same fed =
    let (came, keep) = all_taken n bytes now place same fed in
    subst (λ (h : Held). IsSome h.verdict) (sym came) (whole_ends bytes place fed.ends)
