-- The places of children's least values, and how children that stand there meet their arcs.
use Rattle.std.proofs.Common.{ℕ, ◌≡◌, ◌+◌, ◌-◌, ◌<◌, ◌≤◌, min, List, length, get_or, take, drop, sym, ap, ◌∙◌, subst, arith}
use Rattle.std.proofs.lemmas.List.{get_or-take, get_or-drop, length-take, length-drop}
use Rattle.service_model.specs.declared.limits.TheConstants.{INF}
use Rattle.service_model.specs.declared.plan.Plan.{Plan}
use Rattle.service_model.specs.declared.table.Kind.{Kind}
use Rattle.service_model.specs.declared.table.Kind.TheVariants.{Down, Up, Root}
use Rattle.service_model.specs.declared.table.Table.{Table}
use Rattle.service_model.specs.Net.{Net}
use Rattle.service_model.specs.Plans.{inbound_at, outbound_at}
use Rattle.service_model.specs.Tables.{transit_in, child_transit, place}
use Rattle.service_model.specs.LocalSums.{least_of, child_least, least_below}
use Rattle.service_model.specs.Nodes.{Holds, MeetsChild}
use Rattle.gsm_laws.proofs.TracedFacts.{least_of_le}
use Rattle.gsm_laws.proofs.TraceFacts.{least_reached}
use Rattle.tree_tables.specs.Steps.{MeetsAt, IsChildPlace}

-- the place has the least of the values between two others
pub record IsLowest (xs : List ℕ) (from to y : ℕ) : Type 0 where
  pub not_before : from ≤ y
  pub not_after : y < to
  pub least : (k : ℕ) → from ≤ k → k < to → get_or xs y 0 ≤ get_or xs k 0

lowest_taken : (xs : List ℕ) (m y : ℕ) → IsLowest xs 0 (min m (length xs)) y → least_of (take m xs) < INF → get_or xs y 0 ≡ least_of (take m xs)
lowest_taken xs m y lowest low =
    let found = least_reached (take m xs) low in
    let long = length-take m xs in
    let same = get_or-take m xs found.0 0 (omega (arith, found.1, long)) in
    let other = get_or-take m xs y 0 (omega (arith, lowest.not_after)) in
    let least = least_of_le (take m xs) y (omega (arith, lowest.not_after, long)) in
    omega (arith, lowest.least found.0 (omega arith) (omega (arith, found.1, long)), same, found.2, other, least)

lowest_dropped : (xs : List ℕ) (m y : ℕ) → IsLowest xs m (length xs) y → least_of (drop m xs) < INF → get_or xs y 0 ≡ least_of (drop m xs)
lowest_dropped xs m y lowest low =
    let found = least_reached (drop m xs) low in
    let long = length-drop m xs in
    let same = get_or-drop m xs found.0 0 in
    let other = get_or-drop m xs (y - m) 0 in
    let back : get_or xs (m + (y - m)) 0 ≡ get_or xs y 0 = ap (λ k. get_or xs k 0) (omega (arith, lowest.not_before)) in
    let least = least_of_le (drop m xs) (y - m) (omega (arith, lowest.not_before, lowest.not_after, long)) in
    omega (arith, lowest.least (m + found.0) (omega arith) (omega (arith, found.1, long)), same, found.2, other, back, least)

pub down_place : (n : Net) (c t : Table) (a b y end : ℕ) (xs : List ℕ) → c.kind ≡ Down → least_below n t a b c < INF → xs ≡ c.values
    → end ≡ min (a + 1 - (c.least + transit_in n.arcs c.stage t.stage)) (length c.values) → IsLowest xs 0 end y → IsChildPlace n c t a b y
down_place n c t a b y end xs kind low values is lowest =
    let m = a + 1 - (c.least + transit_in n.arcs c.stage t.stage) in
    let same : least_below n t a b c ≡ least_of (take m c.values) =
    ap (λ (k : Kind). child_least k (child_transit k n.arcs c.stage t.stage) c.least c.floor c.values a b) kind in
    let here : IsLowest c.values 0 (min m (length c.values)) y =
    subst (λ e. IsLowest c.values 0 e y) is (subst (λ (vs : List ℕ). IsLowest vs 0 end y) values lowest) in
    record {
      within = omega (arith, here.not_after);
      value = lowest_taken c.values m y here (omega (arith, same, low)) ∙ sym same;
      met = subst (λ (k : Kind). MeetsAt k n.arcs c t.stage a b y) (sym kind) (omega (arith, here.not_after));
    }

pub up_place : (n : Net) (c t : Table) (a b y from end : ℕ) (xs : List ℕ) → c.kind ≡ Up → least_below n t a b c < INF → xs ≡ c.values
    → from ≡ b + transit_in n.arcs t.stage c.stage - c.floor → end ≡ length c.values → IsLowest xs from end y → IsChildPlace n c t a b y
up_place n c t a b y from end xs kind low values is ends lowest =
    let m = b + transit_in n.arcs t.stage c.stage - c.floor in
    let same : least_below n t a b c ≡ least_of (drop m c.values) =
    ap (λ (k : Kind). child_least k (child_transit k n.arcs c.stage t.stage) c.least c.floor c.values a b) kind in
    let here : IsLowest c.values m (length c.values) y =
    subst (λ f. IsLowest c.values f (length c.values) y) is
    (subst (λ e. IsLowest c.values from e y) ends (subst (λ (vs : List ℕ). IsLowest vs from end y) values lowest)) in
    record {
      within = omega (arith, here.not_after);
      value = lowest_dropped c.values m y here (omega (arith, same, low)) ∙ sym same;
      met = subst (λ (k : Kind). MeetsAt k n.arcs c t.stage a b y) (sym kind) (omega (arith, here.not_before));
    }

-- a plan that stands at a place that meets the arc meets it
pub met_at : (kind : Kind) (n : Net) (c : Table) (j a b y : ℕ) (q : Plan) → MeetsAt kind n.arcs c j a b y → Holds n q c
    → place kind c.least c.floor (inbound_at q c.stage) (outbound_at q c.stage) ≡ y → inbound_at q j ≡ a → outbound_at q j ≡ b
    → MeetsChild kind n.arcs q c.stage j
met_at Down n c j a b y q met holds stands inbound outbound = omega (arith, met, holds.not_early, stands, inbound)
met_at Up n c j a b y q met holds stands inbound outbound = omega (arith, met, holds.not_below, stands, outbound)
met_at Root n c j a b y q met holds stands inbound outbound = absurd met
