-- How many children and values a stage's table has, and how many roots there are.
use Rattle.std.proofs.Common.{ℕ, zero, suc, ◌+◌, ◌<◌, ◌≤◌, List, [], ◌∷◌, length, get_or, reverse, ap, ◌∙◌, arith}
use Rattle.std.specs.Prelude.{AllPairs, ◌==◌}
use Rattle.std.proofs.lemmas.List.{length-map, length-reverse}
use Rattle.std.proofs.lemmas.List.Sums.{length-filter, count_by-le-length}
use Rattle.service_model.specs.declared.range.Range.{Range}
use Rattle.service_model.specs.declared.table.Kind.{Kind}
use Rattle.service_model.specs.declared.table.Kind.TheVariants.{Down, Up, Root}
use Rattle.service_model.specs.declared.table.Table.{Table}
use Rattle.service_model.specs.Net.{Net}
use Rattle.service_model.specs.Tables.{table_at, width, IsSized}
use Rattle.service_model.specs.Forests.{ArePicked}
use Rattle.tree_order.specs.declared.forest.Forest.{Forest}
use Rattle.tree_order.specs.Forest.{IsForest, roots_of}
use Rattle.tree_order.proofs.ForestLaws.{order_each, each_long}
use Rattle.arc_relax.specs.StageTables.{HaveTables, root_numbers}
use Rattle.range_nodes.specs.Sizes.{IsShortTable}

-- rising numbers are no lower than their places
rising_ge : (xs : List ℕ) (k : ℕ) → AllPairs (λ i j. i < j) xs → k < length xs → k ≤ get_or xs k 0
rising_ge xs zero rising within = omega arith
rising_ge xs (suc k) rising within =
    let before = rising_ge xs k rising (omega arith) in
    let next = rising k (suc k) 0 (omega arith) within in
    omega (arith, before, next)

-- so there are no more of them than numbers below their limit
pub picked_few : (P : ℕ → Type 0) (n : ℕ) (xs : List ℕ) → ArePicked P n xs → length xs ≤ n
picked_few P n [] picked = omega arith
picked_few P n (x ∷ xs) picked =
    let last = length xs in
    let high = rising_ge (x ∷ xs) last picked.rising (omega arith) in
    let low = picked.low last 0 (omega arith) in
    omega (arith, high, low)

width_low : (kind : Kind) (horizon least most floor : ℕ) → most ≤ horizon → width kind horizon least most floor ≤ horizon + 1
width_low Down horizon least most floor within = omega arith
width_low Up horizon least most floor within = omega arith
width_low Root horizon least most floor within = omega arith

pub values_few : (n : Net) (t : Table) → IsSized n t → length t.values ≤ n.horizon + 1
values_few n t sized = omega (arith, sized.values, width_low t.kind n.horizon t.least t.most t.floor sized.within)

-- each table is a stage's, and has the stage's children
pub short_table : (n : Net) (r : Range) (f : Forest) (tables : List Table) (numbers : List ℕ) (j : ℕ) → IsForest (length n.stages) n.arcs f
    → HaveTables n r f tables numbers → j < length n.stages → IsShortTable n (table_at tables (get_or numbers j 0))
short_table n r f tables numbers j forest has low =
    let at = has j low in
    let cs = get_or f.children j [] in
    let few = picked_few _ (length n.stages) cs (forest.children.each j low) in
    let same = ap length at.own.children ∙ length-map cs (λ c. get_or numbers c 0) in
    record {
      children = omega (arith, few, same);
      values = values_few n (table_at tables (get_or numbers j 0)) at.tight.shaped.sized;
    }

pub roots_few : (n : Net) (f : Forest) (numbers : List ℕ) → IsForest (length n.stages) n.arcs f → length (reverse (root_numbers f numbers)) ≤ length n.stages
roots_few n f numbers forest =
    let is = λ (j : ℕ). get_or f.parent j 0 == j in
    let long = each_long (length n.stages) f.order (order_each (length n.stages) n.arcs f forest) in
    omega (arith, length-reverse (root_numbers f numbers), length-map (roots_of f) (λ j. get_or numbers j 0), length-filter is f.order, count_by-le-length is f.order, long)
