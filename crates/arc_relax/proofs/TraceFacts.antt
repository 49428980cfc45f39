-- The plans within the tables of all stages are the plans of the range that meet the kept arcs.
use Rattle.std.proofs.Common.{◌≡◌, ℕ, zero, suc, ◌+◌, ◌<◌, ◌≤◌, List, [], length, get_or, reverse, refl, sym, ap, subst, ⊎_elim, arith}
use Rattle.std.specs.List.{AllByRecursion}
use Rattle.service_model.specs.declared.limits.TheConstants.{INF}
use Rattle.service_model.specs.declared.plan.Plan.{Plan}
use Rattle.service_model.specs.declared.range.Range.{Range}
use Rattle.service_model.specs.declared.table.Kind.{Kind}
use Rattle.service_model.specs.declared.table.Kind.TheVariants.{Down, Up, Root}
use Rattle.service_model.specs.declared.table.Table.{Table}
use Rattle.service_model.specs.Net.{Net, arc_in}
use Rattle.service_model.specs.Plans.{HasTimes, Meets, inbound_at, outbound_at, stage_cost, cost_of}
use Rattle.service_model.specs.Walks.{Leads}
use Rattle.service_model.specs.Networks.{IsNetwork}
use Rattle.service_model.specs.Tables.{table_at, transit_in}
use Rattle.service_model.specs.Nodes.{MeetsChild}
use Rattle.service_model.specs.Forests.{IsChildOf, IsKept}
use Rattle.service_model.specs.Relaxed.{IsRelaxedPlan, IsKindOf}
use Rattle.service_model.proofs.ArcFacts.{transit_in-arc}
use Rattle.service_model.proofs.SearchFacts.{term_below_sum}
use Rattle.tree_order.specs.declared.forest.Forest.{Forest}
use Rattle.tree_order.specs.Forest.{IsForest, HasOneSide, roots_of}
use Rattle.tree_order.proofs.ForestLaws.{child_in_list, parent_is_stage, forest_ranked, rank_in, one_side}
use Rattle.tree_order.proofs.BelowLaws.{root_in_list, list_has_root}
use Rattle.gsm_laws.specs.Traces.{TracedWithin, IsTraced, IsTracedNode}
use Rattle.gsm_laws.proofs.ElementFacts.{all_map}
use Rattle.gsm_laws.proofs.PartFacts.{traced_parts}
use Rattle.arc_relax.specs.StageTables.{HaveTables, root_numbers}
use Rattle.arc_relax.proofs.ListFacts.{each_member, of_number}
use Rattle.arc_relax.proofs.TableFacts.{child_stage, child_own, child_met, holds_from_fits, fits_from_holds}
use Rattle.arc_relax.proofs.WholeFacts.{tight_below, earlier_below}

-- a relaxed plan is within the tables

-- between the tables of a child and of its parent
between_tables : (n : Net) (p : Plan) (s t : Table) (j c : ℕ) → s.stage ≡ c → t.stage ≡ j → MeetsChild s.kind n.arcs p c j → MeetsChild s.kind n.arcs p s.stage t.stage
between_tables n p s t j c is is' met =
    subst (λ x. MeetsChild s.kind n.arcs p x t.stage) (sym is) (subst (λ y. MeetsChild s.kind n.arcs p c y) (sym is') met)

-- a relaxed plan is within each stage's table and those below it, and meets the arcs between them
pub fits_traced : (n : Net) (r : Range) (f : Forest) (tables : List Table) (numbers : List ℕ) (p : Plan) → IsNetwork n → IsForest (length n.stages) n.arcs f
    → HaveTables n r f tables numbers → IsRelaxedPlan n r f.parent p → (steps j : ℕ) → j < length n.stages → TracedWithin steps n tables p (get_or numbers j 0)
fits_traced n r f tables numbers p valid forest has relaxed zero j low = tt
fits_traced n r f tables numbers p valid forest has relaxed (suc steps) j low =
    let own = (has j low).own in
    let t = table_at tables (get_or numbers j 0) in
    let P = λ (k : ℕ). MeetsChild (table_at tables k).kind n.arcs p (table_at tables k).stage t.stage × TracedWithin steps n tables p k in (
      holds_from_fits n r f.parent f.children numbers j t p own (relaxed.stages j low),
      subst (AllByRecursion (λ k. MeetsChild (table_at tables k).kind n.arcs p (table_at tables k).stage t.stage × TracedWithin steps n tables p k)) (sym own.children)
          (all_map (λ k. MeetsChild (table_at tables k).kind n.arcs p (table_at tables k).stage t.stage × TracedWithin steps n tables p k) (λ c. get_or numbers c 0) (get_or f.children j [])
          (each_member (λ c. MeetsChild (table_at tables (get_or numbers c 0)).kind n.arcs p (table_at tables (get_or numbers c 0)).stage t.stage × TracedWithin steps n tables p (get_or numbers c 0)) (get_or f.children j [])
          (λ c inside.
          let there = child_stage (length n.stages) n.arcs f forest j c low inside in
          let s = table_at tables (get_or numbers c 0) in
          let met = child_met n f.parent p j c s.kind valid relaxed.arcs (has c there).own.kind (child_own (length n.stages) n.arcs f forest j c low inside) in
          (between_tables n p s t j c (has c there).own.stage own.stage met, fits_traced n r f tables numbers p valid forest has relaxed steps c there)))),
    )

pub relaxed_traced : (n : Net) (r : Range) (f : Forest) (tables : List Table) (numbers : List ℕ) (p : Plan) → IsNetwork n → IsForest (length n.stages) n.arcs f
    → HaveTables n r f tables numbers → IsRelaxedPlan n r f.parent p → IsTracedNode n tables p (root_numbers f numbers)
relaxed_traced n r f tables numbers p valid forest has relaxed =
    all_map (IsTraced n tables p) (λ j. get_or numbers j 0) (roots_of f)
    (each_member (λ j. IsTraced n tables p (get_or numbers j 0)) (roots_of f)
    (λ j inside. fits_traced n r f tables numbers p valid forest has relaxed (suc (get_or numbers j 0)) j (root_in_list (length n.stages) n.arcs f forest j inside).0))

-- a plan within the tables is a relaxed plan

-- what a traced plan is at a child's table
child_traced : (n : Net) (r : Range) (f : Forest) (tables : List Table) (numbers : List ℕ) (p : Plan) → IsForest (length n.stages) n.arcs f
    → HaveTables n r f tables numbers → (j c : ℕ) → j < length n.stages → c < length n.stages → IsChildOf f.parent j c → IsTraced n tables p (get_or numbers j 0)
    → MeetsChild (table_at tables (get_or numbers c 0)).kind n.arcs p c j × IsTraced n tables p (get_or numbers c 0)
child_traced n r f tables numbers p forest has j c low there child traced =
    let t = table_at tables (get_or numbers j 0) in
    let s = table_at tables (get_or numbers c 0) in
    let own = (has j low).own in
    let parts = (traced_parts n tables p (get_or numbers j 0) (earlier_below n tables (get_or numbers j 0) (tight_below n r f tables numbers forest has j low)) traced).1 in
    let at = of_number (λ k. MeetsChild (table_at tables k).kind n.arcs p (table_at tables k).stage t.stage × IsTraced n tables p k) (λ i. get_or numbers i 0) (get_or f.children j []) c
    (subst (AllByRecursion (λ k. MeetsChild (table_at tables k).kind n.arcs p (table_at tables k).stage t.stage × IsTraced n tables p k)) own.children parts)
    (child_in_list (length n.stages) n.arcs f forest j c there child) in (
      subst (λ x. MeetsChild s.kind n.arcs p x j) (has c there).own.stage (subst (λ y. MeetsChild s.kind n.arcs p s.stage y) own.stage at.0),
      at.1,
    )

-- from the roots on, down to each stage
traced_at : (n : Net) (r : Range) (f : Forest) (tables : List Table) (numbers : List ℕ) (p : Plan) → IsForest (length n.stages) n.arcs f
    → HaveTables n r f tables numbers → IsTracedNode n tables p (root_numbers f numbers)
    → (fuel j : ℕ) → rank_in (reverse f.order) j < fuel → j < length n.stages → IsTraced n tables p (get_or numbers j 0)
traced_at n r f tables numbers p forest has traced zero j less low = absurd (omega arith)
traced_at n r f tables numbers p forest has traced (suc fuel) j less low = ⊎_elim
    (λ root. of_number (IsTraced n tables p) (λ i. get_or numbers i 0) (roots_of f) j traced (list_has_root (length n.stages) n.arcs f forest j low root))
    (λ falls.
    let i = get_or f.parent j 0 in
    let above = parent_is_stage (length n.stages) n.arcs f forest j low in
    let apart : ¬ (i ≡ j) = λ same. let e = ap (rank_in (reverse f.order)) same in omega (arith, falls, e) in
    (child_traced n r f tables numbers p forest has i j above low (refl, apart) (traced_at n r f tables numbers p forest has traced fuel i (omega (arith, less, falls)) above)).1)
    ((forest_ranked (length n.stages) n.arcs f forest).falls j low)

traced_stage : (n : Net) (r : Range) (f : Forest) (tables : List Table) (numbers : List ℕ) (p : Plan) → IsForest (length n.stages) n.arcs f
    → HaveTables n r f tables numbers → IsTracedNode n tables p (root_numbers f numbers) → (j : ℕ) → j < length n.stages → IsTraced n tables p (get_or numbers j 0)
traced_stage n r f tables numbers p forest has traced j low =
    traced_at n r f tables numbers p forest has traced (suc (rank_in (reverse f.order) j)) j (omega arith) low

-- a child's table is Down exactly where the arc leads from it
met_up : (n : Net) (f : Forest) (p : Plan) (j c : ℕ) (kind : Kind) → HasOneSide n.arcs f → c < length f.parent → IsChildOf f.parent j c → IsKindOf n.arcs f.parent c kind → Leads n.arcs c j
    → MeetsChild kind n.arcs p c j → outbound_at p c + transit_in n.arcs c j ≤ inbound_at p j
met_up n f p j c Down sides low child is leads met = met
met_up n f p j c Up sides low child is leads met = absurd (⊎_elim
    (λ up. up.1 (subst (λ i. Leads n.arcs i c) child.0 is.1))
    (λ down. down.1 leads)
    (sides j c low child))
met_up n f p j c Root sides low child is leads met = absurd met

met_down : (n : Net) (f : Forest) (p : Plan) (j c : ℕ) (kind : Kind) → HasOneSide n.arcs f → c < length f.parent → IsChildOf f.parent j c → IsKindOf n.arcs f.parent c kind → Leads n.arcs j c
    → MeetsChild kind n.arcs p c j → outbound_at p j + transit_in n.arcs j c ≤ inbound_at p c
met_down n f p j c Up sides low child is leads met = met
met_down n f p j c Down sides low child is leads met = absurd (⊎_elim
    (λ up. up.1 leads)
    (λ down. down.1 (subst (λ i. Leads n.arcs c i) child.0 is.1))
    (sides j c low child))
met_down n f p j c Root sides low child is leads met = absurd met

arc_met : (n : Net) (r : Range) (f : Forest) (tables : List Table) (numbers : List ℕ) (p : Plan) → IsNetwork n → IsForest (length n.stages) n.arcs f
    → HaveTables n r f tables numbers → IsTracedNode n tables p (root_numbers f numbers) → (a : ℕ) → a < length n.arcs → IsKept f.parent (arc_in n.arcs a) → Meets p (arc_in n.arcs a)
arc_met n r f tables numbers p valid forest has traced a within kept =
    let arc = arc_in n.arcs a in
    let ends = valid.arcs a within in
    let sides = one_side n f valid forest in
    let long = forest.walk.long in
    let way = transit_in-arc n a valid within in
    let stage = traced_stage n r f tables numbers p forest has traced in
    ⊎_elim
    (λ up.
    let child : IsChildOf f.parent arc.customer arc.supplier = (up, λ same. ends.apart (sym same)) in
    let met = child_traced n r f tables numbers p forest has arc.customer arc.supplier ends.customer ends.supplier child (stage arc.customer ends.customer) in
    let late = met_up n f p arc.customer arc.supplier (table_at tables (get_or numbers arc.supplier 0)).kind sides (omega (arith, long, ends.supplier)) child
    (has arc.supplier ends.supplier).own.kind (a, within, refl, refl) met.0 in
    omega (arith, late, way))
    (λ down.
    let child : IsChildOf f.parent arc.supplier arc.customer = (down, ends.apart) in
    let met = child_traced n r f tables numbers p forest has arc.supplier arc.customer ends.supplier ends.customer child (stage arc.supplier ends.supplier) in
    let late = met_down n f p arc.supplier arc.customer (table_at tables (get_or numbers arc.customer 0)).kind sides (omega (arith, long, ends.customer)) child
    (has arc.customer ends.customer).own.kind (a, within, refl, refl) met.0 in
    omega (arith, late, way))
    kept

pub traced_relaxed : (n : Net) (r : Range) (f : Forest) (tables : List Table) (numbers : List ℕ) (p : Plan) → IsNetwork n → IsForest (length n.stages) n.arcs f
    → HaveTables n r f tables numbers → HasTimes n p → IsTracedNode n tables p (root_numbers f numbers) → cost_of n p < INF → IsRelaxedPlan n r f.parent p
traced_relaxed n r f tables numbers p valid forest has times traced small = record {
  times = times;
  stages = λ j low.
      fits_from_holds n r f.parent f.children numbers j (table_at tables (get_or numbers j 0)) p (has j low).own (traced_stage n r f tables numbers p forest has traced j low).0
      (omega (arith, term_below_sum (stage_cost n p) (length n.stages) j low, small));
  arcs = arc_met n r f tables numbers p valid forest has traced;
}
