-- What customers ask for is small enough to be summed up.
use Rattle.std.proofs.Common.{ℕ, ◌*◌, ◌<◌, ◌≤◌, List, length, get_or, take, arith}
use Rattle.std.specs.List.{All, sum_by}
use Rattle.std.proofs.lemmas.List.{length-take}
use Rattle.std.proofs.lemmas.List.Elements.{All-take}
use Rattle.std.proofs.lemmas.List.Sums.{sum_by-le}
use Rattle.std.proofs.lemmas.Nat.{mul-le}
use Rattle.service_model.specs.declared.limits.TheConstants.{MAX_ARCS}
use Rattle.stage_file.specs.declared.limits.TheConstants.{MAX_EXCESS, MAX_QUANTITY}
use Rattle.stage_file.specs.declared.arcs.ArcRow.{ArcRow}
use Rattle.demand_tables.specs.Demand.{asked, asked_square, excess_at}
use Rattle.demand_tables.specs.Lookups.{AreAnswered}

-- the sum over the first items, each of which adds at most m
front_le : {X : Type 0} (f : X → ℕ) (m : ℕ) (xs : List X) (k : ℕ) → All (λ x. f x ≤ m) xs → sum_by f (take k xs) ≤ k * m
front_le f m xs k each =
    let sum : sum_by f (take k xs) ≤ length (take k xs) * m = sum_by-le f m (take k xs) (All-take (λ x. f x ≤ m) k xs each) in
    let more : length (take k xs) * m ≤ k * m = mul-le (length (take k xs)) m k m (omega (arith, length-take k xs)) (omega arith) in
    omega arith

asked_le : (lists : List (List ℕ)) (arcs : List ArcRow) (t : ℕ) → AreAnswered lists arcs → All (λ a. t < length (excess_at lists a.customer)) arcs
    → All (λ a. asked lists t a ≤ MAX_QUANTITY * MAX_EXCESS) arcs
asked_le lists arcs t answered within k d inside =
    let a = get_or arcs k d in
    let is = answered.each k d inside in
    mul-le a.quantity (get_or (excess_at lists a.customer) t 0) MAX_QUANTITY MAX_EXCESS is.quantity (is.small t 0 (within k d inside))

square_le : (lists : List (List ℕ)) (arcs : List ArcRow) (t : ℕ) → AreAnswered lists arcs → All (λ a. t < length (excess_at lists a.customer)) arcs
    → All (λ a. asked_square lists t a ≤ (MAX_QUANTITY * MAX_EXCESS) * (MAX_QUANTITY * MAX_EXCESS)) arcs
square_le lists arcs t answered within k d inside =
    let le = asked_le lists arcs t answered within k d inside in
    let n = asked lists t (get_or arcs k d) in
    mul-le n n (MAX_QUANTITY * MAX_EXCESS) (MAX_QUANTITY * MAX_EXCESS) le le

-- a further arc fits, and so does what all ask for
pub sum_fits : (lists : List (List ℕ)) (arcs : List ArcRow) (t k : ℕ) → AreAnswered lists arcs → All (λ a. t < length (excess_at lists a.customer)) arcs → k ≤ length arcs
    → sum_by (asked lists t) (take k arcs) ≤ MAX_ARCS * (MAX_QUANTITY * MAX_EXCESS)
sum_fits lists arcs t k answered within inside =
    let sum = front_le (asked lists t) (MAX_QUANTITY * MAX_EXCESS) arcs k (asked_le lists arcs t answered within) in
    let few = answered.few in
    omega (arith, sum, few)

pub squares_fit : (lists : List (List ℕ)) (arcs : List ArcRow) (t k : ℕ) → AreAnswered lists arcs → All (λ a. t < length (excess_at lists a.customer)) arcs → k ≤ length arcs
    → sum_by (asked_square lists t) (take k arcs) ≤ MAX_ARCS * ((MAX_QUANTITY * MAX_EXCESS) * (MAX_QUANTITY * MAX_EXCESS))
squares_fit lists arcs t k answered within inside =
    let sum = front_le (asked_square lists t) ((MAX_QUANTITY * MAX_EXCESS) * (MAX_QUANTITY * MAX_EXCESS)) arcs k (square_le lists arcs t answered within) in
    let few = answered.few in
    omega (arith, sum, few)
