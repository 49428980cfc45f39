-- The halves of a range within the stages' intervals.
use Rattle.std.proofs.Common.{◌≡◌, ℕ, ◌+◌, ◌<◌, ◌≤◌, List, length, get_or, set, sym, ap, subst, ⊎_elim, arith}
use Rattle.std.proofs.lemmas.Bool.{cases_eq}
use Rattle.std.proofs.lemmas.List.{get_or-set_same, get_or-set_other}
use Rattle.service_model.specs.declared.range.Range.{Range}
use Rattle.service_model.specs.Net.{Net, stage_at}
use Rattle.service_model.specs.Ranges.{HasIntervals, HoldsTime, ended, started}
use Rattle.range_branch.specs.Progress.{IsInside}

-- an entry that was set, or another
entry : (xs : List ℕ) (i j v : ℕ) (P : ℕ → Type 0) → i < length xs → (j ≡ i → P v) → P (get_or xs j 0) → P (get_or (set xs i v) j 0)
entry xs i j v P within new old = ⊎_elim
    (λ same. subst (λ k. P (get_or (set xs i v) k 0)) (sym same) (subst P (sym (get_or-set_same xs i v 0 within)) (new same)))
    (λ other. subst P (sym (get_or-set_other xs i j v 0 other)) old)
    (cases_eq j i)

pub ended_inside : (n : Net) (r : Range) (i v : ℕ) → IsInside n r → HoldsTime r i v → HasIntervals n (ended r i v) → IsInside n (ended r i v)
ended_inside n r i v inside holds intervals = record {
  intervals = intervals;
  inside = λ j low.
      let old = inside.inside j low in (
        old.0,
        entry r.most i j v (λ k. k ≤ (stage_at n j).most) holds.most_there
            (λ same. let late = holds.not_late in omega (arith, old.1, late, ap (λ k. get_or r.most k 0) same)) old.1,
      );
}

pub started_inside : (n : Net) (r : Range) (i v : ℕ) → IsInside n r → HoldsTime r i v → HasIntervals n (started r i v) → IsInside n (started r i v)
started_inside n r i v inside holds intervals = record {
  intervals = intervals;
  inside = λ j low.
      let old = inside.inside j low in (
        entry r.least i j (v + 1) (λ k. (stage_at n j).least ≤ k) holds.least_there
            (λ same. let early = holds.not_early in omega (arith, old.0, early, ap (λ k. get_or r.least k 0) same)) old.0,
        old.1,
      );
}
