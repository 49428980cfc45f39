-- A relaxed range is a node of the search.
use Rattle.std.proofs.Common.{◌≡◌, ℕ, ◌+◌, ◌-◌, ◌<◌, ◌≤◌, ◌^◌, List, length, get_or, map, reverse, sym, ap, ◌∙◌, subst, ⊎_elim, arith}
use Rattle.std.specs.Prelude.{All}
use Rattle.std.specs.List.{AllByRecursion}
use Rattle.std.proofs.lemmas.Bool.{cases_lt}
use Rattle.std.proofs.lemmas.List.{get_or-map, get_or_past, get_or_default, get_or_append_left, length-map}
use Rattle.std.proofs.lemmas.List.Elements.{recursion_from_All, All-from_recursion}
use Rattle.service_model.specs.declared.range.Range.{Range}
use Rattle.service_model.specs.declared.table.Kind.TheVariants.{Root}
use Rattle.service_model.specs.declared.table.Table.{Table}
use Rattle.service_model.specs.declared.cert.Node.{Node}
use Rattle.service_model.specs.Net.{Net}
use Rattle.service_model.specs.Networks.{IsNetwork}
use Rattle.service_model.specs.Ranges.{HasIntervals}
use Rattle.service_model.specs.Tables.{table_at, no_table}
use Rattle.service_model.specs.Nodes.{below, bound_of}
use Rattle.service_model.specs.Relaxed.{IsRelaxedLeast}
use Rattle.service_model.specs.CertRules.{most_floor}
use Rattle.gsm_laws.specs.Traces.{IsWhole}
use Rattle.tree_order.specs.declared.forest.Forest.{Forest}
use Rattle.tree_order.specs.Forest.{IsForest}
use Rattle.arc_relax.specs.declared.relaxed.Relaxed.{Relaxed}
use Rattle.arc_relax.specs.StageTables.{IsGrown}
use Rattle.arc_relax.specs.Laws.{HasPlan}
use Rattle.arc_relax.specs.Relaxations.{IsRelaxed}
use Rattle.arc_relax.proofs.CountFacts.{no_more}
use Rattle.range_nodes.specs.declared.made.Made.{Made}
use Rattle.range_nodes.specs.Sizes.{IsShortTable}
use Rattle.range_nodes.specs.Nodes.{AreSearched, IsRangeNode, IsMade}
use Rattle.range_nodes.proofs.BackFacts.{all_back, bound_back, once_back, contains_back}
use Rattle.range_nodes.proofs.FloorFacts.{floor_low}
use Rattle.range_nodes.proofs.SizeFacts.{short_table}
use Rattle.range_nodes.proofs.NodeFacts.{roots_there}

-- from some number on, no more numbers than stages are those of stages' tables
few_more : (numbers : List ℕ) (n from to : ℕ) → ((i : ℕ) → from ≤ i → i < to → (j : ℕ) × (j < n) × (get_or numbers j 0 ≡ i)) → to ≤ from + n
few_more numbers n from to fresh =
    let back = λ (x : ℕ). x - from in
    let most = no_more (map back numbers) n (to - from)
    (λ i low.
    let at = fresh (from + i) (omega arith) (omega (arith, low)) in
    let is = at.2 in (
      at.0,
      at.1,
      ⊎_elim
          (λ within. omega (arith, is, get_or-map back numbers at.0 0 0 within))
          (λ past. omega (arith, is, get_or_past numbers at.0 0 past, get_or_past (map back numbers) at.0 0 (omega (arith, past, length-map numbers back))))
          (cases_lt at.0 (length numbers)),
    )) in
    omega (arith, most)

-- there are no more new tables than stages
pub relaxed_few : (n : Net) (f : Forest) (r : Range) (old new : List Table) (count count' : ℕ) (x : Relaxed) → IsRelaxed n f r old new count count' x
    → length new ≤ length old + length n.stages
relaxed_few n f r old new count count' x is = few_more is.numbers (length n.stages) (length old) (length new) is.fresh

-- each table was there or is a stage's
each_table : (n : Net) (f : Forest) (r : Range) (old new : List Table) (count count' : ℕ) (x : Relaxed) (P : Table → Type 0)
    → (is : IsRelaxed n f r old new count count' x) → All P old → ((j : ℕ) → j < length n.stages → P (table_at new (get_or is.numbers j 0))) → All P new
each_table n f r old new count count' x P is before holds k d within = ⊎_elim
    (λ low. subst P (sym (ap (λ (ts : List Table). get_or ts k d) is.longer.1 ∙ get_or_append_left old is.longer.0 d k low)) (before k d low))
    (λ late.
    let at = is.fresh k late within in
    subst P (get_or_default new k no_table d within) (subst (λ i. P (table_at new i)) at.2 (holds at.0 at.1)))
    (cases_lt k (length old))

-- so few tables have numbers
searched_more : (n : Net) (f : Forest) (r : Range) (old new : List Table) (count count' : ℕ) (x : Relaxed) → IsNetwork n → IsForest (length n.stages) n.arcs f
    → HasIntervals n r → AreSearched n old → length old + length n.stages < 2 ^ 32 → IsRelaxed n f r old new count count' x → AreSearched n new
searched_more n f r old new count count' x valid forest intervals searched many is =
    let few = relaxed_few n f r old new count count' x is in
    record {
      pool = is.pool;
      floors = each_table n f r old new count count' x (λ t. t.floor ≤ most_floor n) is searched.floors
          (λ j low. (let own = (is.tables j low).own in let floor = floor_low n r j valid intervals low in omega (arith, own.floor, floor)));
      short = each_table n f r old new count count' x (IsShortTable n) is searched.short
          (λ j low. short_table n r f new is.numbers j forest is.tables low);
      numbered = omega (arith, few, many);
    }

-- the roots, from the last on, are roots of a whole node
whole_back : (n : Net) (tables : List Table) (roots : List ℕ) → IsWhole n tables roots → IsWhole n tables (reverse roots)
whole_back n tables roots whole =
    let is_root = λ (k : ℕ). (table_at tables k).kind ≡ Root in
    record {
      kinds = All-from_recursion is_root (reverse roots) (all_back is_root roots (recursion_from_All is_root roots whole.kinds));
      once = once_back tables roots whole.once;
      every = λ j low. contains_back (λ k. (table_at tables k).stage) (below tables) roots j (whole.every j low);
    }

-- the node of a relaxed range, behind so many tables
abbrev pub node_by : ℕ → Relaxed → Node
node_by seen x = record { seen = seen; roots = reverse x.roots; relaxed = x.plan }

range_node : (n : Net) (f : Forest) (r : Range) (old new : List Table) (count count' seen : ℕ) (x : Relaxed) → IsForest (length n.stages) n.arcs f
    → IsRelaxed n f r old new count count' x → IsRangeNode n f new r (node_by seen x)
range_node n f r old new count count' seen x forest is =
    let same : x.bound ≡ bound_of new (reverse x.roots) = is.bound ∙ sym (bound_back new x.roots) in
    let there = λ (k : ℕ). k < length new in
    record {
      numbers = is.numbers;
      stages = is.tables;
      roots = ap reverse is.roots;
      there = All-from_recursion there (reverse x.roots)
          (all_back there x.roots (subst (AllByRecursion there) (sym is.roots) (roots_there n r f new is.numbers forest is.tables)));
      whole = whole_back n new x.roots is.whole;
      least = subst (IsRelaxedLeast n r f.parent) same is.least;
      plan = subst (λ b. HasPlan n r f.parent b x.plan) same is.plan;
    }

pub made_from : (n : Net) (f : Forest) (r : Range) (old new : List Table) (count count' seen : ℕ) (x : Relaxed) (m : Made) → IsNetwork n
    → IsForest (length n.stages) n.arcs f → HasIntervals n r → AreSearched n old → length old + length n.stages < 2 ^ 32
    → IsRelaxed n f r old new count count' x → seen ≡ length new → m ≡ record { node = node_by seen x; bound = x.bound }
    → IsMade n f r old new count count' m
unfolding range_node
made_from n f r old new count count' seen x m valid forest intervals searched many is all same =
    subst (IsMade n f r old new count count') (sym same) (record {
      node = range_node n f r old new count count' seen x forest is;
      bound = is.bound ∙ sym (bound_back new x.roots);
      seen = all;
      tables = searched_more n f r old new count count' x valid forest intervals searched many is;
      longer = is.longer;
      fresh = is.fresh;
      turns = is.turns;
      steps = is.steps;
      few = relaxed_few n f r old new count count' x is;
    })

-- so the pool has grown
pub relaxed_grown : (n : Net) (f : Forest) (r : Range) (old new : List Table) (count count' : ℕ) (x : Relaxed) → IsRelaxed n f r old new count count' x
    → IsGrown n old new count count'
relaxed_grown n f r old new count count' x is =
    let steps = is.steps in
    let few = relaxed_few n f r old new count count' x is in
    record {
      pool = is.pool;
      longer = is.longer;
      no_fewer = omega (arith, steps);
      few = omega (arith, steps);
      room = omega (arith, steps, few);
    }
