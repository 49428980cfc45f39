-- The floor of a customer counts the arcs from its suppliers.
use Rattle.std.proofs.Common.{◌≡◌, ℕ, zero, suc, ◌+◌, ◌<◌, ◌≤◌, Bool, true, false, max, cond, List, [], ◌∷◌, length, get_or, refl, ap, ◌∙◌, arith}
use Rattle.std.specs.Prelude.{slice_index, ◌==◌, ◌&&◌}
use Rattle.std.proofs.lemmas.Bool.{eqb-true, eq-eqb, and_parts, and_from, both_ways}
use Rattle.service_model.specs.declared.stage.SupplyArc.{SupplyArc}
use Rattle.service_model.specs.declared.range.Range.{Range}
use Rattle.service_model.specs.Net.{Net, stage_at}
use Rattle.service_model.specs.Ranges.{latest_start, floor_of}
use Rattle.service_model.specs.Tables.{Supplies, transit_in}

raised_ge : (b : Bool) (x y z : ℕ) → (b ≡ true → z ≤ x) → (b ≡ false → z ≤ y) → z ≤ cond b (max x y) y
raised_ge true x y z here later = omega (arith, here refl)
raised_ge false x y z here later = later refl

raised_more : (b : Bool) (x y z : ℕ) → z ≤ y → z ≤ cond b (max x y) y
raised_more true x y z low = omega arith
raised_more false x y z low = low

chosen : (b : Bool) (x y : ℕ) (P : ℕ → Type 0) → (b ≡ true → P x) → (b ≡ false → P y) → P (cond b x y)
chosen true x y P here later = here refl
chosen false x y P here later = later refl

-- the first arc is from stage i to stage j
first_ge : (a : SupplyArc) (arcs : List SupplyArc) (starts : List ℕ) (i j start : ℕ) → a.supplier ≡ i → a.customer ≡ j
    → slice_index starts i + a.transit ≤ latest_start (a ∷ arcs) starts j start
first_ge a arcs starts i j start from to =
    let same : slice_index starts a.supplier ≡ slice_index starts i = ap (slice_index starts) from in
    raised_ge (a.customer == j) _ _ _ (λ taken. omega (arith, same)) (λ other. absurd (both_ways _ other (eq-eqb a.customer j to)))

start_ge : (arcs : List SupplyArc) (k : ℕ) (b : SupplyArc) (starts : List ℕ) (i j start : ℕ) → k < length arcs → get_or arcs k b ≡ b
    → b.supplier ≡ i → b.customer ≡ j → slice_index starts i + transit_in arcs i j ≤ latest_start arcs starts j start
start_ge [] k b starts i j start within is from to = absurd (omega arith)
start_ge (a ∷ arcs) zero b starts i j start within is from to =
    let from' : a.supplier ≡ i = ap (λ (c : SupplyArc). c.supplier) is ∙ from in
    let to' : a.customer ≡ j = ap (λ (c : SupplyArc). c.customer) is ∙ to in
    chosen ((a.supplier == i) && (a.customer == j)) a.transit (transit_in arcs i j) (λ t. slice_index starts i + t ≤ latest_start (a ∷ arcs) starts j start)
    (λ here. first_ge a arcs starts i j start from' to')
    (λ other. absurd (both_ways _ other (and_from (a.supplier == i) (a.customer == j) (eq-eqb a.supplier i from') (eq-eqb a.customer j to'))))
start_ge (a ∷ arcs) (suc k) b starts i j start within is from to =
    let rest = start_ge arcs k b starts i j start (omega arith) is from to in
    chosen ((a.supplier == i) && (a.customer == j)) a.transit (transit_in arcs i j) (λ t. slice_index starts i + t ≤ latest_start (a ∷ arcs) starts j start)
    (λ here.
    let parts = and_parts (a.supplier == i) (a.customer == j) here in
    first_ge a arcs starts i j start (eqb-true a.supplier i parts.0) (eqb-true a.customer j parts.1))
    (λ other. raised_more (a.customer == j) _ _ _ rest)

-- a floor that is within the horizon is at least the start of a supplier's interval, and the transit
pub floor_ge : (n : Net) (r : Range) (i j : ℕ) → Supplies n.arcs i j → floor_of n r j ≤ n.horizon → slice_index r.least i + transit_in n.arcs i j ≤ floor_of n r j
floor_ge n r i j (k, b, within, is, (from, to)) low = let late = start_ge n.arcs k b r.least i j (stage_at n j).supply within is from to in omega (arith, late, low)
