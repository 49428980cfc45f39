-- Parts of the whole range, and the halves of a part.
use Rattle.std.proofs.Common.{◌≡◌, ℕ, ◌+◌, ◌<◌, ◌≤◌, List, length, get_or, set, sym, ap, ◌∙◌, subst, ⊎_elim, arith}
use Rattle.std.proofs.lemmas.Bool.{cases_eq}
use Rattle.std.proofs.lemmas.List.{get_or-map, get_or-set_same, get_or-set_other, length-map, length-set}
use Rattle.service_model.specs.declared.stage.Stage.{Stage}
use Rattle.service_model.specs.declared.range.Range.{Range}
use Rattle.service_model.specs.Net.{Net, no_stage, stage_at}
use Rattle.service_model.specs.Networks.{IsNetwork}
use Rattle.service_model.specs.Ranges.{HasIntervals, HoldsTime, whole_of, ended, started}

-- the range has an interval for each stage, within the stage's own
pub record IsPart (n : Net) (r : Range) : Type 0 where
  pub intervals : HasIntervals n r
  pub inside : (j : ℕ) → j < length n.stages → ((stage_at n j).least ≤ get_or r.least j 0) × (get_or r.most j 0 ≤ (stage_at n j).most)

-- the whole range's intervals are the stages'
pub whole_least : (n : Net) (j : ℕ) → j < length n.stages → get_or (whole_of n).least j 0 ≡ (stage_at n j).least
whole_least n j low = get_or-map (λ (s : Stage). s.least) n.stages j no_stage 0 low

pub whole_most : (n : Net) (j : ℕ) → j < length n.stages → get_or (whole_of n).most j 0 ≡ (stage_at n j).most
whole_most n j low = get_or-map (λ (s : Stage). s.most) n.stages j no_stage 0 low

pub whole_part : (n : Net) → IsNetwork n → IsPart n (whole_of n)
whole_part n valid = record {
  intervals = record {
    least = length-map n.stages (λ s. s.least);
    most = length-map n.stages (λ s. s.most);
    interval = λ j low. omega (arith, whole_least n j low, whole_most n j low, (valid.stages j low).least);
    within = λ j low. omega (arith, whole_most n j low, (valid.stages j low).most);
  };
  inside = λ j low. (omega (arith, whole_least n j low), omega (arith, whole_most n j low));
}

-- an entry that was set, or another
pub entry : (xs : List ℕ) (i j v : ℕ) (P : ℕ → Type 0) → i < length xs → (j ≡ i → P v) → P (get_or xs j 0) → P (get_or (set xs i v) j 0)
entry xs i j v P within new old = ⊎_elim
    (λ same. subst (λ k. P (get_or (set xs i v) k 0)) (sym same) (subst P (sym (get_or-set_same xs i v 0 within)) (new same)))
    (λ other. subst P (sym (get_or-set_other xs i j v 0 other)) old)
    (cases_eq j i)

pub ended_part : (n : Net) (r : Range) (i v : ℕ) → IsPart n r → HoldsTime r i v → IsPart n (ended r i v)
ended_part n r i v part holds =
    let fits = λ (j : ℕ) (low : j < length n.stages).
    entry r.most i j v (λ k. (get_or r.least j 0 ≤ k) × (k ≤ n.horizon) × (k ≤ (stage_at n j).most)) holds.most_there
    (λ same.
    let first = ap (λ k. get_or r.least k 0) same in
    let last = ap (λ k. get_or r.most k 0) same in (
      omega (arith, first, holds.not_early),
      omega (arith, last, holds.not_late, part.intervals.within j low),
      omega (arith, last, holds.not_late, (part.inside j low).1),
    ))
    (part.intervals.interval j low, part.intervals.within j low, (part.inside j low).1) in
    record {
      intervals = record {
        least = part.intervals.least;
        most = length-set r.most i v ∙ part.intervals.most;
        interval = λ j low. (fits j low).0;
        within = λ j low. (fits j low).1;
      };
      inside = λ j low. ((part.inside j low).0, (fits j low).2);
    }

pub started_part : (n : Net) (r : Range) (i v : ℕ) → IsPart n r → HoldsTime r i v → HoldsTime r i (v + 1) → IsPart n (started r i v)
started_part n r i v part holds next =
    let fits = λ (j : ℕ) (low : j < length n.stages).
    entry r.least i j (v + 1) (λ k. (k ≤ get_or r.most j 0) × ((stage_at n j).least ≤ k)) holds.least_there
    (λ same.
    let first = ap (λ k. get_or r.least k 0) same in
    let last = ap (λ k. get_or r.most k 0) same in
    (omega (arith, last, next.not_late), omega (arith, first, holds.not_early, (part.inside j low).0)))
    (part.intervals.interval j low, (part.inside j low).0) in
    record {
      intervals = record {
        least = length-set r.least i (v + 1) ∙ part.intervals.least;
        most = part.intervals.most;
        interval = λ j low. (fits j low).0;
        within = part.intervals.within;
      };
      inside = λ j low. ((fits j low).1, (part.inside j low).1);
    }
