-- The forest's roots fall in its order, so that the roots of a node rise.
use Rattle.std.proofs.Common.{◌≡◌, ℕ, ◌-◌, ◌<◌, true, List, length, get_or, map, reverse, sym, ap, ◌∙◌, subst, ⊎_elim, arith}
use Rattle.std.specs.Prelude.{AllPairs, ◌==◌}
use Rattle.std.proofs.lemmas.Bool.{eqb-true}
use Rattle.std.proofs.lemmas.List.{get_or-map, get_or-reverse, get_or_default, length-map, length-reverse, ext_get_or}
use Rattle.std.proofs.lemmas.List.Kept.{AllPairs-filter}
use Rattle.std.proofs.lemmas.List.Elements.{All-contains_itself, filter_passes}
use Rattle.service_model.specs.declared.stage.SupplyArc.{SupplyArc}
use Rattle.service_model.specs.declared.range.Range.{Range}
use Rattle.service_model.specs.declared.table.Table.{Table}
use Rattle.service_model.specs.Net.{Net}
use Rattle.service_model.specs.Tables.{table_at}
use Rattle.service_model.specs.Forests.{IsFirstOfGroup, IsWalk}
use Rattle.tree_order.specs.declared.forest.Forest.{Forest}
use Rattle.tree_order.specs.Forest.{IsForest, roots_of}
use Rattle.tree_order.proofs.BelowLaws.{root_in_list}
use Rattle.arc_relax.specs.StageTables.{HaveTables, root_numbers}
use Rattle.range_nodes.specs.Roots.{RiseByStage, AreRootsOf}

-- a root is the first of its group
root_first : (stages : ℕ) (arcs : List SupplyArc) (seen parent : List ℕ) (k : ℕ) → IsWalk stages arcs seen parent → k < length seen
    → get_or parent (get_or seen k 0) 0 ≡ get_or seen k 0 → IsFirstOfGroup arcs seen k
root_first stages arcs seen parent k walk within root = ⊎_elim
    (λ first. first.0)
    (λ tie. absurd (walk.order.each_once.once tie.0 k 0 tie.3 within (sym tie.4 ∙ root)))
    (walk.parents k within)

-- of two roots of the order the later one has the lower number
abbrev Falls : List ℕ → ℕ → ℕ → Type 0
Falls parent i j = (get_or parent i 0 == i) ≡ true → (get_or parent j 0 == j) ≡ true → j < i

order_falls : (stages : ℕ) (arcs : List SupplyArc) (f : Forest) → IsForest stages arcs f → AllPairs (Falls f.parent) f.order
order_falls stages arcs f forest a b d less within one two =
    let seen = reverse f.order in
    let last = length f.order - 1 in
    let long = length-reverse f.order in
    let at_a : get_or seen (last - a) 0 ≡ get_or f.order a d =
    get_or-reverse f.order (last - a) 0 (omega (arith, less, within)) ∙ ap (λ k. get_or f.order k 0) (let e : length f.order - 1 - (last - a) ≡ a = omega (arith, less, within) in e)
    ∙ get_or_default f.order a 0 d (omega (arith, less, within)) in
    let at_b : get_or seen (last - b) 0 ≡ get_or f.order b d =
    get_or-reverse f.order (last - b) 0 (omega (arith, less, within)) ∙ ap (λ k. get_or f.order k 0) (let e : length f.order - 1 - (last - b) ≡ b = omega (arith, less, within) in e)
    ∙ get_or_default f.order b 0 d within in
    let root : get_or f.parent (get_or seen (last - b) 0) 0 ≡ get_or seen (last - b) 0 =
    subst (λ j. get_or f.parent j 0 ≡ j) (sym at_b) (eqb-true (get_or f.parent (get_or f.order b d) 0) (get_or f.order b d) two) in
    let first = root_first stages arcs seen f.parent (last - b) forest.walk (omega (arith, long, less, within)) root in
    let lowest = forest.walk.order.lowest (last - b) (last - a) first (omega (arith, less, within)) (omega (arith, long, less, within)) in
    omega (arith, lowest, at_a, at_b)

-- the roots, in the order, fall
roots_fall : (stages : ℕ) (arcs : List SupplyArc) (f : Forest) → IsForest stages arcs f → AllPairs (λ i j. j < i) (roots_of f)
roots_fall stages arcs f forest a b d less within =
    let is = λ (j : ℕ). get_or f.parent j 0 == j in
    let pairs = AllPairs-filter (Falls f.parent) is f.order (order_falls stages arcs f forest) in
    let passes = filter_passes is f.order in
    pairs a b d less within (passes a d (omega (arith, less, within))) (passes b d within)

-- the table of a root has the stage of the forest's root
root_stage : (n : Net) (r : Range) (f : Forest) (tables : List Table) (numbers : List ℕ) (k : ℕ) → IsForest (length n.stages) n.arcs f → HaveTables n r f tables numbers
    → k < length (roots_of f) → (table_at tables (get_or (root_numbers f numbers) k 0)).stage ≡ get_or (roots_of f) k 0
root_stage n r f tables numbers k forest has within =
    let j = get_or (roots_of f) k 0 in
    let low : j < length n.stages = (root_in_list (length n.stages) n.arcs f forest j (All-contains_itself (roots_of f) k 0 within)).0 in
    ap (λ i. (table_at tables i).stage) (get_or-map (λ i. get_or numbers i 0) (roots_of f) k 0 0 within) ∙ (has j low).own.stage

-- the roots of the node are those of the forest, from the last on
pub roots_are : (n : Net) (r : Range) (f : Forest) (tables : List Table) (numbers : List ℕ) → IsForest (length n.stages) n.arcs f → HaveTables n r f tables numbers
    → AreRootsOf f tables (reverse (root_numbers f numbers))
roots_are n r f tables numbers forest has =
    let roots = root_numbers f numbers in
    let stage = λ (k : ℕ). (table_at tables k).stage in
    let long : length roots ≡ length (roots_of f) = length-map (roots_of f) (λ j. get_or numbers j 0) in
    let back = length-reverse roots in
    let mapped = length-map (reverse roots) stage in
    ext_get_or 0 (map stage (reverse roots)) (reverse (roots_of f)) (mapped ∙ back ∙ long ∙ sym (length-reverse (roots_of f)))
    (λ k within.
    let high : k < length (reverse roots) = omega (arith, within, mapped) in
    let same : length roots - 1 - k ≡ length (roots_of f) - 1 - k = ap (λ m. m - 1 - k) long in
    get_or-map stage (reverse roots) k 0 0 high
    ∙ ap stage (get_or-reverse roots k 0 (omega (arith, high, back)))
    ∙ root_stage n r f tables numbers (length roots - 1 - k) forest has (omega (arith, high, back, long))
    ∙ ap (λ m. get_or (roots_of f) m 0) same
    ∙ sym (get_or-reverse (roots_of f) k 0 (omega (arith, high, back, long))))

-- what falls rises from the last on
rise_back : (xs : List ℕ) → AllPairs (λ i j. j < i) xs → AllPairs (λ i j. i < j) (reverse xs)
rise_back xs falls a b d less within =
    let long = length-reverse xs in
    let last = length xs - 1 in
    let pair = falls (last - b) (last - a) d (omega (arith, less, within, long)) (omega (arith, less, within, long)) in
    omega (arith, pair, get_or-reverse xs a d (omega (arith, less, within, long)), get_or-reverse xs b d (omega (arith, within, long)))

-- so they rise
pub roots_rise : (n : Net) (f : Forest) (tables : List Table) (roots : List ℕ) → IsForest (length n.stages) n.arcs f → AreRootsOf f tables roots
    → RiseByStage tables roots
roots_rise n f tables roots forest are =
    subst (λ (js : List ℕ). AllPairs (λ i j. i < j) js) (sym are) (rise_back (roots_of f) (roots_fall (length n.stages) n.arcs f forest))
