-- The floors of a range.
use Rattle.std.proofs.Common.{◌≡◌, ℕ, ◌+◌, ◌<◌, ◌≤◌, Bool, true, false, cond, List, [], ◌∷◌, length, get_or, refl, ⊎_elim, arith}
use Rattle.std.specs.Prelude.{nat_lt, max, ◌==◌}
use Rattle.std.specs.List.{list_any}
use Rattle.std.proofs.lemmas.Bool.{cases_lt, ltb-false, or_parts}
use Rattle.std.proofs.lemmas.List.{get_or_past}
use Rattle.service_model.specs.declared.range.Range.{Range}
use Rattle.service_model.specs.declared.stage.SupplyArc.{SupplyArc}
use Rattle.service_model.specs.Net.{Net, stage_at}
use Rattle.service_model.specs.Networks.{IsNetwork}
use Rattle.service_model.specs.Ranges.{HasIntervals, latest_start, floor_of}
use Rattle.service_model.specs.CertRules.{most_floor}

raised_low : (b : Bool) (out rest most : ℕ) → out ≤ most → rest ≤ most → cond b (max out rest) rest ≤ most
raised_low true out rest most out_low low = omega arith
raised_low false out rest most out_low low = low

-- where no arc has a transit, no start is later than the latest interval start
latest_low : (arcs : List SupplyArc) (starts : List ℕ) (j start most : ℕ) → list_any (λ a. nat_lt 0 a.transit) arcs ≡ false
    → ((i : ℕ) → get_or starts i 0 ≤ most) → start ≤ most → latest_start arcs starts j start ≤ most
latest_low [] starts j start most none low early = early
latest_low (a ∷ arcs) starts j start most none low early =
    let parts = or_parts (nat_lt 0 a.transit) (list_any (λ b. nat_lt 0 b.transit) arcs) none in
    let transit = ltb-false 0 a.transit parts.0 in
    let first = low a.supplier in
    raised_low (a.customer == j) (get_or starts a.supplier 0 + a.transit) (latest_start arcs starts j start) most (omega (arith, transit, first))
    (latest_low arcs starts j start most parts.1 low early)

-- no interval of a range starts after the horizon
start_low : (n : Net) (r : Range) (i : ℕ) → HasIntervals n r → get_or r.least i 0 ≤ n.horizon
start_low n r i intervals = ⊎_elim
    (λ within. (let first = intervals.interval i within in let last = intervals.within i within in omega (arith, first, last)))
    (λ past. (let none = get_or_past r.least i 0 (let long = intervals.least in omega (arith, long, past)) in omega (arith, none)))
    (cases_lt i (length n.stages))

by_transit : (n : Net) (r : Range) (j : ℕ) (b : Bool) → IsNetwork n → HasIntervals n r → j < length n.stages → list_any (λ a. nat_lt 0 a.transit) n.arcs ≡ b
    → floor_of n r j ≤ cond b (n.horizon + 1) n.horizon
by_transit n r j true valid intervals low some = omega arith
by_transit n r j false valid intervals low none =
    let latest = latest_low n.arcs r.least j (stage_at n j).supply n.horizon none (λ i. start_low n r i intervals) (valid.stages j low).supply in
    omega (arith, latest)

-- no floor of a range is above the greatest of a table
pub floor_low : (n : Net) (r : Range) (j : ℕ) → IsNetwork n → HasIntervals n r → j < length n.stages → floor_of n r j ≤ most_floor n
floor_low n r j valid intervals low = by_transit n r j (list_any (λ a. nat_lt 0 a.transit) n.arcs) valid intervals low refl
