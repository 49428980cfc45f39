-- Plans in the two halves of a range.
use Rattle.std.proofs.Common.{◌≡◌, ℕ, ◌+◌, ◌<◌, ◌≤◌, List, length, get_or, set, ap, ◌∙◌, inl, inr, ⊎_elim, arith}
use Rattle.std.specs.Prelude.{slice_index, ◌⊎◌}
use Rattle.std.proofs.lemmas.Bool.{cases_eq, cases_lt}
use Rattle.std.proofs.lemmas.List.{get_or-set_same, get_or-set_other, set_past}
use Rattle.service_model.specs.declared.plan.Plan.{Plan}
use Rattle.service_model.specs.declared.range.Range.{Range}
use Rattle.service_model.specs.Net.{Net}
use Rattle.service_model.specs.Plans.{outbound_at}
use Rattle.service_model.specs.Ranges.{ended, started, IsIn}

-- an entry after a write, which may be past the list's end
set_cases : (xs : List ℕ) (i v j : ℕ) → (get_or (set xs i v) j 0 ≡ get_or xs j 0) ⊎ ((j ≡ i) × (get_or (set xs i v) j 0 ≡ v))
set_cases xs i v j = ⊎_elim
    (λ is. ⊎_elim
    (λ within. inr (is, ap (λ k. get_or (set xs i v) k 0) is ∙ get_or-set_same xs i v 0 within))
    (λ past. inl (ap (λ ys. get_or ys j 0) (set_past xs i v past)))
    (cases_lt i (length xs)))
    (λ other. inl (get_or-set_other xs i j v 0 other))
    (cases_eq j i)

pub in_ended : (n : Net) (r : Range) (p : Plan) (i v : ℕ) → IsIn n r p → outbound_at p i ≤ v → IsIn n (ended r i v) p
in_ended n r p i v inside low j within =
    let both = inside j within in (
      both.0,
      ⊎_elim
          (λ same. omega (arith, same, both.1))
          (λ at. let here : outbound_at p j ≡ outbound_at p i = ap (outbound_at p) at.0 in omega (arith, at.1, here, low))
          (set_cases r.most i v j),
    )

pub in_started : (n : Net) (r : Range) (p : Plan) (i v : ℕ) → IsIn n r p → v < outbound_at p i → IsIn n (started r i v) p
in_started n r p i v inside high j within =
    let both = inside j within in (
      ⊎_elim
          (λ same. omega (arith, same, both.0))
          (λ at. let here : outbound_at p j ≡ outbound_at p i = ap (outbound_at p) at.0 in omega (arith, at.1, here, high))
          (set_cases r.least i (v + 1) j),
      both.1,
    )

pub in_from_ended : (n : Net) (r : Range) (p : Plan) (i v : ℕ) → v ≤ slice_index r.most i → IsIn n (ended r i v) p → IsIn n r p
in_from_ended n r p i v most inside j within =
    let both = inside j within in (
      both.0,
      ⊎_elim
          (λ same. omega (arith, same, both.1))
          (λ at. let here : slice_index r.most j ≡ slice_index r.most i = ap (slice_index r.most) at.0 in omega (arith, at.1, here, most, both.1))
          (set_cases r.most i v j),
    )

pub in_from_started : (n : Net) (r : Range) (p : Plan) (i v : ℕ) → slice_index r.least i ≤ v → IsIn n (started r i v) p → IsIn n r p
in_from_started n r p i v least inside j within =
    let both = inside j within in (
      ⊎_elim
          (λ same. omega (arith, same, both.0))
          (λ at. let here : slice_index r.least j ≡ slice_index r.least i = ap (slice_index r.least) at.0 in omega (arith, at.1, here, least, both.0))
          (set_cases r.least i (v + 1) j),
      both.1,
    )

-- where the interval of the stage is there, its outbound time tells the halves apart
pub low_in_ended : (n : Net) (r : Range) (p : Plan) (i v : ℕ) → i < length n.stages → i < length r.most → IsIn n (ended r i v) p → outbound_at p i ≤ v
low_in_ended n r p i v within there inside = omega (arith, (inside i within).1, get_or-set_same r.most i v 0 there)

pub high_in_started : (n : Net) (r : Range) (p : Plan) (i v : ℕ) → i < length n.stages → i < length r.least → IsIn n (started r i v) p → v < outbound_at p i
high_in_started n r p i v within there inside = omega (arith, (inside i within).0, get_or-set_same r.least i (v + 1) 0 there)
