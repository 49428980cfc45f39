-- Two shifts of a plan have the same times, where no stage reaches itself.
use Rattle.std.proofs.Common.{◌≡◌, ◌≢◌, ℕ, zero, suc, ◌+◌, ◌<◌, ◌≤◌, Bool, true, false, max, cond, List, [], ◌∷◌, length, refl, subst, inl, inr, ⊎_elim, arith}
use Rattle.std.specs.Prelude.{◌==◌, ◌⊎◌, sum_by}
use Rattle.std.specs.List.{AllByRecursion}
use Rattle.std.proofs.lemmas.Bool.{cases_eq, eqb-true}
use Rattle.std.proofs.lemmas.List.Sums.{sum_by-cons}
use Rattle.service_model.specs.declared.stage.SupplyArc.{SupplyArc}
use Rattle.service_model.specs.declared.plan.Plan.{Plan}
use Rattle.service_model.specs.Net.{Net, no_arc}
use Rattle.service_model.specs.Search.{sum_below}
use Rattle.service_model.specs.Plans.{inbound_at, outbound_at}
use Rattle.service_model.specs.Walks.{Leads, Walk, NoCycle}
use Rattle.service_model.specs.Networks.{IsNetwork}
use Rattle.service_model.specs.Customers.{HasEnds}
use Rattle.service_model.specs.Repairs.{latest_arrival, Shift, IsRepair}
use Rattle.service_model.proofs.NetworkFacts.{IsNetwork-HasEnds}
use Rattle.gsm_laws.specs.Traces.{SameAt}
use Rattle.gsm_laws.proofs.ElementFacts.{each}
use Rattle.gsm_laws.proofs.SumFacts.{Different, different_sum}

-- the arcs bring stage j its inputs at the same time where its suppliers quote the same
arrival_agree : (b : Bool) (out out' transit time time' : ℕ) → (b ≡ true → out' ≡ out) → time' ≡ time
    → cond b (max (out' + transit) time') time' ≡ cond b (max (out + transit) time) time
arrival_agree true out out' transit time time' same rest = let here = same refl in omega (arith, here, rest)
arrival_agree false out out' transit time time' same rest = rest

latest_agree : (arcs : List SupplyArc) (a b : Plan) (j time : ℕ)
    → AllByRecursion (λ arc. arc.customer ≡ j → outbound_at b arc.supplier ≡ outbound_at a arc.supplier) arcs
    → latest_arrival arcs b j time ≡ latest_arrival arcs a j time
latest_agree [] a b j time same = refl
latest_agree (arc ∷ arcs) a b j time same =
    arrival_agree (arc.customer == j) (outbound_at a arc.supplier) (outbound_at b arc.supplier) arc.transit (latest_arrival arcs a j time) (latest_arrival arcs b j time)
    (λ is. same.0 (eqb-true arc.customer j is)) (latest_agree arcs a b j time same.1)

-- ---- a stage whose times differ has a supplier whose times differ
later : (a : SupplyArc) (arcs : List SupplyArc) (i j : ℕ) → Leads arcs i j → Leads (a ∷ arcs) i j
later a arcs i j (k, within, from, to) = (suc k, omega (arith, within), from, to)

-- all suppliers of stage j quote the same, or one does not
same_or_not : (a b : Plan) (j : ℕ) (arcs : List SupplyArc)
    → AllByRecursion (λ arc. arc.customer ≡ j → outbound_at b arc.supplier ≡ outbound_at a arc.supplier) arcs
    ⊎ ((i : ℕ) × Leads arcs i j × (outbound_at b i ≢ outbound_at a i))
same_or_not a b j [] = inl tt
same_or_not a b j (arc ∷ arcs) = ⊎_elim
    (λ rest. ⊎_elim
    (λ same. inl ((λ to. same), rest))
    (λ differ. ⊎_elim
    (λ to. inr (arc.supplier, (0, omega arith, refl, to), differ))
    (λ away. inl ((λ to. absurd (away to)), rest))
    (cases_eq arc.customer j))
    (cases_eq (outbound_at b arc.supplier) (outbound_at a arc.supplier)))
    (λ found. inr (found.0, later arc arcs found.0 j found.1, found.2))
    (same_or_not a b j arcs)

same_from_suppliers : (n : Net) (q a b : Plan) (j : ℕ) → IsRepair Shift n q a → IsRepair Shift n q b → j < length n.stages
    → AllByRecursion (λ arc. arc.customer ≡ j → outbound_at b arc.supplier ≡ outbound_at a arc.supplier) n.arcs → SameAt a b j
same_from_suppliers n q a b j is other within suppliers =
    let arcs = latest_agree n.arcs a b j (inbound_at q j) suppliers in
    let mine = is.stages j within in
    let yours = other.stages j within in
    (omega (arith, mine.0, yours.0, arcs), omega (arith, mine.0, yours.0, arcs, mine.1, yours.1))

-- ---- such stages lead back without end
walk_first : (arcs : List SupplyArc) (m i j k : ℕ) → Leads arcs i j → Walk arcs j k m → Walk arcs i k (suc m)
walk_first arcs zero i j k lead walk = (i, refl, subst (λ x. Leads arcs i x) walk lead)
walk_first arcs (suc m) i j k lead (x, walk, last) = (x, walk_first arcs m i j x lead walk, last)

-- the fact at one of the numbers, or it is none of them
at_or_not : (P : ℕ → Type 0) (i : ℕ) (ts : List ℕ) → AllByRecursion P ts → P i ⊎ AllByRecursion (λ k. k ≢ i) ts
at_or_not P i [] all = inr tt
at_or_not P i (t ∷ ts) all = ⊎_elim
    (λ same. inl (subst P same all.0))
    (λ differ. ⊎_elim (λ here. inl here) (λ away. inr (differ, away)) (at_or_not P i ts all.1))
    (cases_eq t i)

ones-list : (ts : List ℕ) → sum_by (λ k. 1) ts ≡ length ts
ones-list [] = refl
ones-list (t ∷ ts) = let rest = ones-list ts in let here = sum_by-cons (λ (k : ℕ). 1) t ts in omega (arith, rest, here)

ones-below : (n : ℕ) → sum_below (λ k. 1) n ≡ n
ones-below zero = refl
ones-below (suc n) = let rest = ones-below n in omega (arith, rest)

few : (n : ℕ) (ts : List ℕ) → AllByRecursion (λ t. t < n) ts → Different ts → length ts ≤ n
few n ts low apart = let most = different_sum (λ k. 1) n ts low apart in omega (arith, most, ones-list ts, ones-below n)

-- stage x, whose times differ, and different stages to which it leads
record Trail (n : Net) (a b : Plan) (x : ℕ) (ts : List ℕ) : Type 0 where
  stage : x < length n.stages
  differs : ¬ SameAt a b x
  low : AllByRecursion (λ t. t < length n.stages) ts
  apart : Different ts
  reached : AllByRecursion (λ t. (m : ℕ) × Walk n.arcs x t m) ts

climb : (n : Net) (q a b : Plan) → HasEnds (length n.stages) n.arcs → NoCycle (length n.stages) n.arcs → IsRepair Shift n q a → IsRepair Shift n q b
    → (fuel x : ℕ) (ts : List ℕ) → length n.stages < length ts + fuel → ¬ Trail n a b x ts
climb n q a b ends acyclic is other zero x ts much trail = omega (arith, much, few (length n.stages) ts trail.low trail.apart)
climb n q a b ends acyclic is other (suc fuel) x ts much trail = ⊎_elim
    (λ suppliers. trail.differs (same_from_suppliers n q a b x is other trail.stage suppliers))
    (λ found.
    let i = found.0 in
    let lead = found.1 in
    let there : found.0 < length n.stages = subst (λ y. y < length n.stages) found.1.2 (ends found.1.0 no_arc found.1.1).0 in
    ⊎_elim
    (λ met. acyclic found.0 there (met.0, walk_first n.arcs met.0 found.0 x found.0 lead met.1))
    (λ fresh. climb n q a b ends acyclic is other fuel found.0 (found.0 ∷ ts) (omega (arith, much)) (record {
      stage = there;
      differs = λ same. found.2 same.1;
      low = (there, trail.low);
      apart = (fresh, trail.apart);
      reached = (
        (0, refl),
        each (λ t. (m : ℕ) × Walk n.arcs x t m) (λ t. (m : ℕ) × Walk n.arcs found.0 t m)
            (λ t (m, walk). (suc m, walk_first n.arcs m found.0 x t lead walk)) ts trail.reached,
      );
    }))
    (at_or_not (λ t. (m : ℕ) × Walk n.arcs x t m) found.0 ts trail.reached))
    (same_or_not a b x n.arcs)

-- two shifts of a plan have the same times, in each network
pub shift_one : (n : Net) (q a b : Plan) → IsNetwork n → IsRepair Shift n q a → IsRepair Shift n q b → (j : ℕ) → j < length n.stages → SameAt a b j
shift_one n q a b valid is other j within =
    let never = λ (differs : ¬ SameAt a b j). climb n q a b (IsNetwork-HasEnds n valid) valid.acyclic is other (suc (length n.stages)) j [] (omega arith)
    (record { stage = within; differs = differs; low = tt; apart = tt; reached = tt }) in
    ⊎_elim
    (λ inbound. ⊎_elim (λ outbound. (inbound, outbound)) (λ differ. absurd (never (λ same. differ same.1))) (cases_eq (outbound_at b j) (outbound_at a j)))
    (λ differ. absurd (never (λ same. differ same.0)))
    (cases_eq (inbound_at b j) (inbound_at a j))
