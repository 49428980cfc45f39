-- A feasible plan costs at least the values of the tables that it is within, and the bound of the node in whose range it lies.
use Rattle.std.proofs.Common.{◌≡◌, ℕ, zero, suc, ◌+◌, ◌<◌, ◌≤◌, Bool, true, false, cond, List, [], ◌∷◌, length, get_or, refl, ap, arith}
use Rattle.std.specs.Prelude.{◌&&◌, ◌==◌}
use Rattle.std.specs.List.{flat_map, AllByRecursion}
use Rattle.std.proofs.lemmas.Bool.{eqb-true, eq-eqb, and_parts, and_from, both_ways}
use Rattle.std.proofs.lemmas.List.Elements.{recursion_from_All}
use Rattle.service_model.specs.declared.stage.SupplyArc.{SupplyArc}
use Rattle.service_model.specs.declared.plan.Plan.{Plan}
use Rattle.service_model.specs.declared.range.Range.{Range}
use Rattle.service_model.specs.declared.table.Kind.{Kind}
use Rattle.service_model.specs.declared.table.Kind.TheVariants.{Down, Up, Root}
use Rattle.service_model.specs.declared.table.Table.{Table}
use Rattle.service_model.specs.Net.{Net}
use Rattle.service_model.specs.Plans.{Feasible, Meets, inbound_at, outbound_at}
use Rattle.service_model.specs.Customers.{HasEnds}
use Rattle.service_model.specs.Ranges.{IsIn}
use Rattle.service_model.specs.Tables.{table_at, Supplies, transit_in, IsChild}
use Rattle.service_model.specs.Nodes.{below, below_within, below_roots, Holds, Fits, IsSoundAt, AreSoundBelow, MeetsChild}
use Rattle.service_model.proofs.RangeFacts.{floor_le}
use Rattle.gsm_laws.specs.Traces.{TracedWithin, IsTraced}
use Rattle.gsm_laws.specs.Laws.{FeasibleLaw, NodeLaw}
use Rattle.gsm_laws.proofs.ElementFacts.{each_two, all_append, all_parts}
use Rattle.gsm_laws.proofs.BelowFacts.{earlier_from_sound, sound_everywhere}
use Rattle.gsm_laws.proofs.TracedFacts.{traced_law}
use Rattle.gsm_laws.proofs.WholeFacts.{once_cost, lower_roots}

choice_le : (b : Bool) (out x y late : ℕ) → (b ≡ true → out + x ≤ late) → (b ≡ false → out + y ≤ late) → out + cond b x y ≤ late
choice_le true out x y late taken other = taken refl
choice_le false out x y late taken other = other refl

-- a plan that meets an arc between two stages keeps its transit
ends_met : (p : Plan) (a : SupplyArc) (i j : ℕ) → ((a.supplier == i) && (a.customer == j)) ≡ true → Meets p a
    → outbound_at p i + a.transit ≤ inbound_at p j
ends_met p a i j test met =
    let parts = and_parts (a.supplier == i) (a.customer == j) test in
    let from : outbound_at p a.supplier ≡ outbound_at p i = ap (outbound_at p) (eqb-true a.supplier i parts.0) in
    let to : inbound_at p a.customer ≡ inbound_at p j = ap (inbound_at p) (eqb-true a.customer j parts.1) in
    omega (arith, from, to, met)

transit_met : (arcs : List SupplyArc) (k : ℕ) (p : Plan) (i j : ℕ) (b : SupplyArc) → AllByRecursion (Meets p) arcs → k < length arcs
    → get_or arcs k b ≡ b → b.supplier ≡ i → b.customer ≡ j → outbound_at p i + transit_in arcs i j ≤ inbound_at p j
transit_met [] k p i j b all within is from to = absurd (omega arith)
transit_met (a ∷ arcs) zero p i j b all within is from to =
    choice_le ((a.supplier == i) && (a.customer == j)) (outbound_at p i) a.transit (transit_in arcs i j) (inbound_at p j)
    (λ taken. ends_met p a i j taken all.0)
    (λ other. absurd (both_ways _ other
    (and_from (a.supplier == i) (a.customer == j)
    (eq-eqb a.supplier i (cc (ap (λ (c : SupplyArc). c.supplier) is)))
    (eq-eqb a.customer j (cc (ap (λ (c : SupplyArc). c.customer) is))))))
transit_met (a ∷ arcs) (suc k) p i j b all within is from to =
    choice_le ((a.supplier == i) && (a.customer == j)) (outbound_at p i) a.transit (transit_in arcs i j) (inbound_at p j)
    (λ taken. ends_met p a i j taken all.0)
    (λ other. transit_met arcs k p i j b all.1 (omega arith) is from to)

-- a feasible plan keeps the transit from a supplier to its customer
pub arc_met : (n : Net) (p : Plan) (i j : ℕ) → Feasible n p → Supplies n.arcs i j → outbound_at p i + transit_in n.arcs i j ≤ inbound_at p j
arc_met n p i j feasible (k, b, within, is, (from, to)) =
    transit_met n.arcs k p i j b (recursion_from_All (Meets p) n.arcs feasible.arcs) within is from to

meets_child : (kind : Kind) (n : Net) (p : Plan) (c j : ℕ) → Feasible n p → IsChild kind n.arcs c j → MeetsChild kind n.arcs p c j
meets_child Down n p c j feasible child = arc_met n p c j feasible child
meets_child Up n p c j feasible child = arc_met n p j c feasible child
meets_child Root n p c j feasible child = child

fits_holds : (n : Net) (r : Range) (p : Plan) (t : Table) → HasEnds (length n.stages) n.arcs → Feasible n p → IsIn n r p → t.stage < length n.stages
    → Fits n r t → Holds n p t
fits_holds n r p t ends feasible inside there fits =
    let low = floor_le n r p t.stage ends feasible inside there in
    let both = inside t.stage there in
    record {
      not_early = omega (arith, fits.least, both.0);
      not_late = omega (arith, fits.most, both.1);
      not_below = omega (arith, fits.floor, low);
      not_above = (feasible.stages t.stage there).within;
    }

-- the table is sound, and the plan is within it
abbrev pub HoldsAt : Net → List Table → Plan → ℕ → Type 0
HoldsAt n tables p k = IsSoundAt n tables k × Holds n p (table_at tables k)

meet_children : (n : Net) (tables : List Table) (p : Plan) (j steps i : ℕ) → Feasible n p
    → ((c : ℕ) → c < steps → AllByRecursion (HoldsAt n tables p) (below_within steps tables c) → TracedWithin steps n tables p c) → i ≤ steps
    → (cs : List ℕ) → AllByRecursion (λ c. c < i) cs
    → AllByRecursion (λ c. IsChild (table_at tables c).kind n.arcs (table_at tables c).stage j) cs
    → AllByRecursion (HoldsAt n tables p) (flat_map (below_within steps tables) cs)
    → AllByRecursion (λ c. MeetsChild (table_at tables c).kind n.arcs p (table_at tables c).stage j × TracedWithin steps n tables p c) cs
meet_children n tables p j steps i feasible again low [] earlier children holds = tt
meet_children n tables p j steps i feasible again low (c ∷ cs) earlier children holds =
    let parts = all_append (HoldsAt n tables p) (below_within steps tables c) (flat_map (below_within steps tables) cs) holds in (
      (meets_child (table_at tables c).kind n p (table_at tables c).stage j feasible children.0, again c (omega (arith, earlier.0)) parts.0),
      meet_children n tables p j steps i feasible again low cs earlier.1 children.1 parts.1,
    )

holds_traced : (n : Net) (tables : List Table) (p : Plan) → Feasible n p
    → (steps i : ℕ) → i < steps → AllByRecursion (HoldsAt n tables p) (below_within steps tables i) → TracedWithin steps n tables p i
holds_traced n tables p feasible zero i low holds = absurd (omega arith)
holds_traced n tables p feasible (suc steps) i low holds =
    let shaped = holds.0.0.shaped in (
      holds.0.1,
      meet_children n tables p (table_at tables i).stage steps i feasible (holds_traced n tables p feasible steps) (omega arith)
          (table_at tables i).children (earlier_from_sound n tables i holds.0.0)
          (recursion_from_All (λ c. IsChild (table_at tables c).kind n.arcs (table_at tables c).stage (table_at tables i).stage) (table_at tables i).children shaped.children)
          holds.1,
    )

-- a feasible plan within sound tables meets the arcs between them
pub within_traced : (n : Net) (tables : List Table) (p : Plan) (i : ℕ) → Feasible n p → AreSoundBelow n tables i
    → AllByRecursion (λ k. Holds n p (table_at tables k)) (below tables i) → IsTraced n tables p i
within_traced n tables p i feasible sound holds =
    holds_traced n tables p feasible (suc i) i (omega arith)
    (each_two (IsSoundAt n tables) (λ k. Holds n p (table_at tables k)) (HoldsAt n tables p) (λ k at hold. (at, hold)) (below tables i) sound holds)

-- a feasible plan of a range is within the tables that fit the range, and meets the arcs between them
pub feasible_traced : (n : Net) (tables : List Table) (r : Range) (p : Plan) (i : ℕ) → HasEnds (length n.stages) n.arcs → Feasible n p → IsIn n r p
    → AreSoundBelow n tables i → AllByRecursion (λ k. Fits n r (table_at tables k)) (below tables i) → IsTraced n tables p i
feasible_traced n tables r p i ends feasible inside sound fits =
    within_traced n tables p i feasible sound
    (each_two (IsSoundAt n tables) (λ k. Fits n r (table_at tables k)) (λ k. Holds n p (table_at tables k))
    (λ k at fit. fits_holds n r p (table_at tables k) ends feasible inside at.shaped.sized.stage fit) (below tables i) sound fits)

pub feasible_law : FeasibleLaw
feasible_law n tables p i sound within feasible holds =
    let below_sound = sound_everywhere n tables i sound within in
    traced_law n tables p i below_sound
    (within_traced n tables p i feasible below_sound (recursion_from_All (λ k. Holds n p (table_at tables k)) (below tables i) holds))

pub node_law : NodeLaw
node_law n tables r roots p ends sound node feasible inside =
    let fits = all_parts (λ k. Fits n r (table_at tables k)) (below tables) roots
    (recursion_from_All (λ k. Fits n r (table_at tables k)) (below_roots tables roots) node.fits) in
    let traced = each_two (AreSoundBelow n tables) (λ k. AllByRecursion (λ m. Fits n r (table_at tables m)) (below tables k)) (IsTraced n tables p)
    (λ k at fit. feasible_traced n tables r p k ends feasible inside at fit) roots sound fits in
    let sum = lower_roots n tables p roots sound (recursion_from_All (λ k. (table_at tables k).kind ≡ Root) roots node.kinds) traced in
    omega (arith, sum, once_cost n tables roots p sound node.once)
