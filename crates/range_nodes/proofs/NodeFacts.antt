-- The tables of a node and its relaxed plan.
use Rattle.std.proofs.Common.{◌≡◌, ℕ, ◌<◌, List, length, get_or, Option, Some, None, sym, ap, ◌∙◌, subst, arith}
use Rattle.std.specs.Prelude.{All, IfSome}
use Rattle.std.specs.List.{AllByRecursion}
use Rattle.std.proofs.lemmas.List.{get_or_default, get_or-map, length-map}
use Rattle.std.proofs.lemmas.List.Elements.{recursion_from_All, All-from_recursion, All-contains_itself}
use Rattle.service_model.specs.declared.plan.Plan.{Plan}
use Rattle.service_model.specs.declared.range.Range.{Range}
use Rattle.service_model.specs.declared.table.Table.{Table}
use Rattle.service_model.specs.declared.cert.Node.{Node}
use Rattle.service_model.specs.Net.{Net}
use Rattle.service_model.specs.Plans.{HasTimes}
use Rattle.service_model.specs.Networks.{IsNetwork}
use Rattle.service_model.specs.Ranges.{HasIntervals, floor_of}
use Rattle.service_model.specs.Nodes.{below, below_roots, Fits}
use Rattle.service_model.specs.Tables.{table_at}
use Rattle.service_model.specs.Relaxed.{IsTableOf}
use Rattle.service_model.specs.CertNumbers.{PlanInRange}
use Rattle.gsm_laws.proofs.ElementFacts.{all_map, all_concat}
use Rattle.tree_order.specs.declared.forest.Forest.{Forest}
use Rattle.tree_order.specs.Forest.{IsForest, roots_of}
use Rattle.tree_order.proofs.BelowLaws.{root_in_list}
use Rattle.arc_relax.specs.StageTables.{HaveTables, root_numbers}
use Rattle.arc_relax.specs.Laws.{HasPlan}
use Rattle.arc_relax.proofs.WholeFacts.{each_below_root}
use Rattle.range_nodes.specs.Nodes.{IsRangeNode}
use Rattle.range_nodes.specs.Laws.{StageBelowLaw}
use Rattle.range_nodes.proofs.BackFacts.{all_below_back}

-- the roots' numbers are those of tables
pub roots_there : (n : Net) (r : Range) (f : Forest) (tables : List Table) (numbers : List ℕ) → IsForest (length n.stages) n.arcs f
    → HaveTables n r f tables numbers → AllByRecursion (λ k. k < length tables) (root_numbers f numbers)
roots_there n r f tables numbers forest has =
    all_map (λ k. k < length tables) (λ j. get_or numbers j 0) (roots_of f)
    (recursion_from_All (λ j. get_or numbers j 0 < length tables) (roots_of f)
    (λ k d within.
    let low = (root_in_list (length n.stages) n.arcs f forest (get_or (roots_of f) k d) (All-contains_itself (roots_of f) k d within)).0 in
    (has (get_or (roots_of f) k d) low).tight.there))

-- what holds of each stage's table holds of all tables at or below the roots
pub each_below : (n : Net) (f : Forest) (tables : List Table) (r : Range) (x : Node) (P : ℕ → Type 0) → IsForest (length n.stages) n.arcs f
    → (is : IsRangeNode n f tables r x) → ((j : ℕ) → j < length n.stages → P (get_or is.numbers j 0)) → All P (below_roots tables x.roots)
each_below n f tables r x P forest is holds =
    let roots = root_numbers f is.numbers in
    All-from_recursion P (below_roots tables x.roots)
    (subst (λ (ks : List ℕ). AllByRecursion P (below_roots tables ks)) (sym is.roots)
    (all_below_back P (below tables) roots
    (all_concat P (below tables) roots (each_below_root n r f tables is.numbers P forest is.stages holds))))

-- each stage's table stands at or below the roots: some table of the stage does, and that is the stage's
pub stage_below : StageBelowLaw
stage_below n f tables r x j forest is low =
    let stage = λ (k : ℕ). (table_at tables k).stage in
    let number = λ (i : ℕ). get_or is.numbers i 0 in
    let ks = below_roots tables x.roots in
    let own = each_below n f tables r x (λ k. number (stage k) ≡ k) forest is (λ i inside. ap number (is.stages i inside).own.stage) in
    let at = is.whole.every j low in
    let within : at.0 < length ks = omega (arith, at.1, length-map ks stage) in
    let here : stage (get_or ks at.0 (number j)) ≡ j = sym (get_or-map stage ks at.0 (number j) j within) ∙ at.2 in
    (at.0, within, sym (own at.0 (number j) within) ∙ ap number here)

-- a stage's table fits the range
pub fits_range : (n : Net) (r : Range) (parent : List ℕ) (lists : List (List ℕ)) (numbers : List ℕ) (j : ℕ) (t : Table)
    → IsTableOf n r parent lists numbers j t → Fits n r t
fits_range n r parent lists numbers j t own =
    let least = ap (λ i. get_or r.least i 0) own.stage in
    let most = ap (λ i. get_or r.most i 0) own.stage in
    let floor = ap (floor_of n r) own.stage in
    record {
      least = omega (arith, own.least, least);
      most = omega (arith, own.most, most);
      floor = omega (arith, own.floor, floor);
    }

-- the plan's times, how many and how late
pub has_times : (n : Net) (r : Range) (parent : List ℕ) (bound : ℕ) (plan : Option Plan) → HasPlan n r parent bound plan → IfSome plan (HasTimes n)
has_times n r parent bound None has = tt
has_times n r parent bound (Some p) has = has.0.times

pub plan_in_range : (n : Net) (r : Range) (parent : List ℕ) (bound : ℕ) (plan : Option Plan) → IsNetwork n → HasIntervals n r
    → HasPlan n r parent bound plan → IfSome plan PlanInRange
plan_in_range n r parent bound None valid intervals has = tt
plan_in_range n r parent bound (Some p) valid intervals has =
    let relaxed = has.0 in
    record {
      inbound = λ k d within.
          let low : k < length n.stages = omega (arith, within, relaxed.times.inbound) in
          omega (arith, get_or_default p.inbound k d 0 within, (relaxed.stages k low).not_above, valid.horizon);
      outbound = λ k d within.
          let low : k < length n.stages = omega (arith, within, relaxed.times.outbound) in
          omega (arith, get_or_default p.outbound k d 0 within, (relaxed.stages k low).not_late, intervals.within k low, valid.horizon);
    }
