-- The latest start and the floors by one more arc.
use Rattle.std.proofs.Common.{◌≡◌, ◌≢◌, ℕ, zero, suc, ◌+◌, ◌<◌, Bool, true, false, cond, List, [], ◌∷◌, length, get_or, set, take, refl, sym, ap, subst, ◌∙◌, arith}
use Rattle.std.specs.Prelude.{max, min, ◌==◌}
use Rattle.std.proofs.lemmas.Bool.{eqb-true, eq-eqb, both_ways}
use Rattle.std.proofs.lemmas.List.{get_or-set_same, get_or-set_other, length-set}
use Rattle.service_model.specs.declared.stage.SupplyArc.{SupplyArc}
use Rattle.service_model.specs.declared.range.Range.{Range}
use Rattle.service_model.specs.Net.{Net, net_of, arc_in, stage_at}
use Rattle.service_model.specs.Ranges.{start_by, latest_start, AreFloors}

later : Bool → ℕ → ℕ → ℕ
later counts x y = cond counts (max x y) y

later-later : (a b : Bool) (x y z : ℕ) → later a x (later b y z) ≡ later b y (later a x z)
unfolding later
later-later true true x y z = omega arith
later-later true false x y z = omega arith
later-later false true x y z = omega arith
later-later false false x y z = omega arith

-- two arcs may come in either order
start_by-start_by : (a b : SupplyArc) (starts : List ℕ) (j start : ℕ) → start_by a starts j (start_by b starts j start) ≡ start_by b starts j (start_by a starts j start)
unfolding later
start_by-start_by a b starts j start = later-later (a.customer == j) (b.customer == j) (get_or starts a.supplier 0 + a.transit) (get_or starts b.supplier 0 + b.transit) start

-- one more arc
pub latest_start_more : (arcs : List SupplyArc) (starts : List ℕ) (j start k : ℕ) → k < length arcs
    → latest_start (take (suc k) arcs) starts j start ≡ start_by (arc_in arcs k) starts j (latest_start (take k arcs) starts j start)
latest_start_more [] starts j start k within = absurd (omega arith)
latest_start_more (a ∷ arcs) starts j start zero within = refl
latest_start_more (a ∷ arcs) starts j start (suc k) within =
    ap (start_by a starts j) (latest_start_more arcs starts j start k (omega arith))
    ∙ start_by-start_by a (arc_in arcs k) starts j (latest_start (take k arcs) starts j start)

-- a floor by one more arc
raised : (floors : List ℕ) (c j x : ℕ) (leads : Bool) → (c == j) ≡ leads → c < length floors
    → get_or (set floors c (max (get_or floors c 0) x)) j 0 ≡ cond leads (max (get_or floors j 0) x) (get_or floors j 0)
raised floors c j x true is within =
    let same : c ≡ j = eqb-true c j is in
    subst (λ (k : ℕ). get_or (set floors c (max (get_or floors c 0) x)) k 0 ≡ max (get_or floors k 0) x) same (get_or-set_same floors c _ 0 within)
raised floors c j x false is within =
    let other : j ≢ c = λ same. both_ways (c == j) is (eq-eqb c j (sym same)) in
    get_or-set_other floors c j _ 0 other

capped_start : (leads : Bool) (h x y floor : ℕ) → floor ≡ min (h + 1) y → cond leads (max floor (min (h + 1) x)) floor ≡ min (h + 1) (cond leads (max x y) y)
capped_start true h x y floor same = omega arith
capped_start false h x y floor same = omega arith

-- one more arc raises its customer's floor
pub floors_more : (n : Net) (r : Range) (k : ℕ) (floors floors' : List ℕ) → k < length n.arcs → (arc_in n.arcs k).customer < length floors
    → AreFloors (net_of n.horizon n.stages (take k n.arcs)) r floors
    → floors' ≡ set floors (arc_in n.arcs k).customer (max (get_or floors (arc_in n.arcs k).customer 0) (min (n.horizon + 1) (get_or r.least (arc_in n.arcs k).supplier 0 + (arc_in n.arcs k).transit)))
    → AreFloors (net_of n.horizon n.stages (take (suc k) n.arcs)) r floors'
floors_more n r k floors floors' within there known is = record {
  long = ap length is ∙ length-set floors _ _ ∙ known.long;
  each = λ j stage.
      let a = arc_in n.arcs k in
      let start = latest_start (take k n.arcs) r.least j (stage_at n j).supply in
      ap (λ (xs : List ℕ). get_or xs j 0) is
      ∙ raised floors a.customer j _ (a.customer == j) refl there
      ∙ capped_start (a.customer == j) n.horizon (get_or r.least a.supplier 0 + a.transit) start (get_or floors j 0) (known.each j stage)
      ∙ ap (min (n.horizon + 1)) (sym (latest_start_more n.arcs r.least j (stage_at n j).supply k within));
}
