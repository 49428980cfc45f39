-- The arcs that a relaxed plan may break are those that the forest drops.
use Rattle.std.proofs.Common.{◌≡◌, ℕ, ◌+◌, ◌<◌, ◌≤◌, true, List, length, get_or, Option, Some, refl, sym, ap, ◌∙◌, subst, inl, inr, ⊎_elim, arith}
use Rattle.std.specs.Prelude.{All, ◌⊎◌, ◌==◌}
use Rattle.std.proofs.lemmas.Bool.{cases_eq, eq-eqb}
use Rattle.std.proofs.lemmas.List.{get_or_default}
use Rattle.std.proofs.lemmas.List.Folds.{list_any_at}
use Rattle.service_model.specs.declared.plan.Plan.{Plan}
use Rattle.service_model.specs.declared.range.Range.{Range}
use Rattle.service_model.specs.declared.table.Table.{Table}
use Rattle.service_model.specs.declared.cert.Node.{Node}
use Rattle.service_model.specs.declared.cert.Split.{Split}
use Rattle.service_model.specs.Net.{Net, no_arc, arc_in}
use Rattle.service_model.specs.Plans.{Meets, inbound_at, outbound_at}
use Rattle.service_model.specs.Networks.{IsNetwork}
use Rattle.service_model.specs.Ranges.{floor_of}
use Rattle.service_model.specs.Tables.{transit_in}
use Rattle.service_model.specs.Forests.{IsKept}
use Rattle.service_model.specs.Relaxed.{IsRelaxedPlan}
use Rattle.service_model.proofs.ArcFacts.{supplies_from_leads, leads_from_supplies, transit_in-arc}
use Rattle.tree_order.specs.declared.forest.Forest.{Forest}
use Rattle.tree_order.specs.Forest.{IsForest}
use Rattle.cert_laws.proofs.FloorFacts.{floor_ge}
use Rattle.arc_relax.specs.Laws.{HasPlan}
use Rattle.range_nodes.specs.Nodes.{IsRangeNode}
use Rattle.search_laws.specs.Enough.{is_dropped_supplier}
use Rattle.search_laws.proofs.ChoiceFacts.{times_of}
use Rattle.search_laws.proofs.SplitsFacts.{IsBroken}

-- the supplier on an arc that is not kept is a dropped supplier
not_kept : (n : Net) (f : Forest) (a : ℕ) → IsForest (length n.stages) n.arcs f → a < length n.arcs → ¬ IsKept f.parent (arc_in n.arcs a)
    → is_dropped_supplier n f (arc_in n.arcs a).supplier ≡ true
not_kept n f a forest within lost =
    let (k, inside, is) = forest.dropped.all a within lost in
    list_any_at (λ b. (arc_in n.arcs b).supplier == (arc_in n.arcs a).supplier) f.dropped k a inside
    (eq-eqb _ _ (ap (λ b. (arc_in n.arcs b).supplier) is))

-- a relaxed plan meets an arc whose supplier is no dropped one
met_or_dropped : (n : Net) (f : Forest) (r : Range) (p : Plan) (a : ℕ) → IsForest (length n.stages) n.arcs f → IsRelaxedPlan n r f.parent p → a < length n.arcs
    → Meets p (arc_in n.arcs a) ⊎ (is_dropped_supplier n f (arc_in n.arcs a).supplier ≡ true)
met_or_dropped n f r p a forest relaxed within =
    let x = arc_in n.arcs a in
    ⊎_elim
    (λ up. inl (relaxed.arcs a within (inl up)))
    (λ not_up. ⊎_elim
    (λ down. inl (relaxed.arcs a within (inr down)))
    (λ not_down. inr (not_kept n f a forest within (λ kept. ⊎_elim (λ up. not_up up) (λ down. not_down down) kept)))
    (cases_eq (get_or f.parent x.customer 0) x.supplier))
    (cases_eq (get_or f.parent x.supplier 0) x.customer)

broken_at : (n : Net) (f : Forest) (r : Range) (p : Plan) (i j : ℕ) → IsNetwork n → IsForest (length n.stages) n.arcs f → IsRelaxedPlan n r f.parent p
    → (a : ℕ) → a < length n.arcs → (arc_in n.arcs a).supplier ≡ i → (arc_in n.arcs a).customer ≡ j
    → inbound_at p j < outbound_at p i + transit_in n.arcs i j → is_dropped_supplier n f i ≡ true
broken_at n f r p i j valid forest relaxed a within from to broken =
    let x = arc_in n.arcs a in
    let transit : transit_in n.arcs i j ≡ x.transit =
    sym (ap (λ k. transit_in n.arcs k x.customer) from ∙ ap (λ k. transit_in n.arcs i k) to) ∙ transit_in-arc n a valid within in
    ⊎_elim
    (λ met. absurd (omega (arith, met, broken, transit, ap (outbound_at p) from, ap (inbound_at p) to)))
    (λ dropped. ap (is_dropped_supplier n f) (sym from) ∙ dropped)
    (met_or_dropped n f r p a forest relaxed within)

has_plan : (n : Net) (f : Forest) (r : Range) (bound : ℕ) (plan : Option Plan) (p : Plan) → plan ≡ Some p → HasPlan n r f.parent bound plan
    → IsRelaxedPlan n r f.parent p
has_plan n f r bound plan p is has = (subst (HasPlan n r f.parent bound) is has).0

-- a split's supplier is a dropped one
pub split_dropped : (n : Net) (f : Forest) (tables : List Table) (r : Range) (x : Node) (s : Split) → IsNetwork n → IsForest (length n.stages) n.arcs f
    → IsRangeNode n f tables r x → IsBroken n x s → is_dropped_supplier n f s.supplier ≡ true
split_dropped n f tables r x s valid forest node broken =
    let (a, within, from, to) = leads_from_supplies n.arcs s.supplier s.customer broken.arc in
    broken_at n f r broken.plan s.supplier s.customer valid forest (has_plan n f r _ x.relaxed broken.plan broken.there node.plan) a within from to broken.broken

-- an arc is met where the interval of its supplier holds one time
single_met : (n : Net) (r : Range) (parent : List ℕ) (p : Plan) (a : ℕ) → IsNetwork n → IsRelaxedPlan n r parent p → a < length n.arcs
    → times_of r (arc_in n.arcs a).supplier ≡ 1 → Meets p (arc_in n.arcs a)
single_met n r parent p a valid relaxed within one =
    let x = arc_in n.arcs a in
    let ends = valid.arcs a within in
    let supplier = relaxed.stages x.supplier ends.supplier in
    let customer = relaxed.stages x.customer ends.customer in
    let low : floor_of n r x.customer ≤ n.horizon = omega (arith, customer.not_below, customer.not_above) in
    let floor = floor_ge n r x.supplier x.customer (supplies_from_leads n.arcs x.supplier x.customer (a, within, refl, refl)) low in
    omega (arith, floor, customer.not_below, transit_in-arc n a valid within, supplier.not_early, supplier.not_late, one)

-- a relaxed plan meets all arcs where the interval of each dropped supplier holds one time
pub single_times : (n : Net) (f : Forest) (r : Range) (p : Plan) → IsNetwork n → IsForest (length n.stages) n.arcs f → IsRelaxedPlan n r f.parent p
    → ((j : ℕ) → j < length n.stages → is_dropped_supplier n f j ≡ true → times_of r j ≡ 1) → All (Meets p) n.arcs
single_times n f r p valid forest relaxed single a d within =
    subst (Meets p) (get_or_default n.arcs a no_arc d within)
    (⊎_elim
    (λ met. met)
    (λ dropped. single_met n r f.parent p a valid relaxed within (single (arc_in n.arcs a).supplier (valid.arcs a within).supplier dropped))
    (met_or_dropped n f r p a forest relaxed within))
