-- The tables of all stages make a whole node.
use Rattle.std.proofs.Common.{◌≡◌, ◌≢◌, ℕ, zero, suc, ◌+◌, ◌<◌, List, [], ◌∷◌, length, get_or, map, refl, sym, ap, ◌∙◌, subst, arith}
use Rattle.std.specs.Prelude.{AllPairs, Contains}
use Rattle.std.specs.List.{flat_map, AllByRecursion}
use Rattle.std.proofs.lemmas.List.Elements.{All-from_recursion}
use Rattle.service_model.specs.declared.stage.SupplyArc.{SupplyArc}
use Rattle.service_model.specs.declared.range.Range.{Range}
use Rattle.service_model.specs.declared.table.Kind.{Kind}
use Rattle.service_model.specs.declared.table.Kind.TheVariants.{Down, Up, Root}
use Rattle.service_model.specs.declared.table.Table.{Table}
use Rattle.service_model.specs.Net.{Net}
use Rattle.service_model.specs.Tables.{table_at}
use Rattle.service_model.specs.Nodes.{below, below_roots, below_within, IsTightAt, AreTightBelow}
use Rattle.service_model.specs.Forests.{below_within as stages_within}
use Rattle.service_model.specs.Relaxed.{IsKindOf}
use Rattle.tree_order.specs.declared.forest.Forest.{Forest}
use Rattle.tree_order.specs.Forest.{IsForest, roots_of}
use Rattle.tree_order.proofs.BelowLaws.{root_in_list, each_below}
use Rattle.gsm_laws.specs.Traces.{IsWhole}
use Rattle.gsm_laws.proofs.ElementFacts.{each, all_map, all_concat}
use Rattle.gsm_laws.proofs.BelowFacts.{HasEarlier, below_enough, earlier_from_sound, sound_from_tight}
use Rattle.arc_relax.specs.StageTables.{HaveTables, root_numbers}
use Rattle.arc_relax.proofs.ListFacts.{each_member, map-flat_map}
use Rattle.arc_relax.proofs.TableFacts.{child_stage}

-- what holds of each stage's table holds of all tables at and below it
pub each_within : (n : Net) (r : Range) (f : Forest) (tables : List Table) (numbers : List ℕ) (P : ℕ → Type 0) → IsForest (length n.stages) n.arcs f
    → HaveTables n r f tables numbers → ((j : ℕ) → j < length n.stages → P (get_or numbers j 0))
    → (steps j : ℕ) → j < length n.stages → AllByRecursion P (below_within steps tables (get_or numbers j 0))
each_within n r f tables numbers P forest has holds zero j low = tt
each_within n r f tables numbers P forest has holds (suc steps) j low = (
  holds j low,
  subst (λ (cs : List ℕ). AllByRecursion P (flat_map (below_within steps tables) cs)) (sym (has j low).own.children)
      (all_concat P (below_within steps tables) (map (λ c. get_or numbers c 0) (get_or f.children j []))
      (all_map (λ k. AllByRecursion P (below_within steps tables k)) (λ c. get_or numbers c 0) (get_or f.children j [])
      (each_member (λ c. AllByRecursion P (below_within steps tables (get_or numbers c 0))) (get_or f.children j [])
      (λ c inside. each_within n r f tables numbers P forest has holds steps c (child_stage (length n.stages) n.arcs f forest j c low inside))))),
)

-- and of all tables at and below the roots
pub each_below_root : (n : Net) (r : Range) (f : Forest) (tables : List Table) (numbers : List ℕ) (P : ℕ → Type 0) → IsForest (length n.stages) n.arcs f
    → HaveTables n r f tables numbers → ((j : ℕ) → j < length n.stages → P (get_or numbers j 0))
    → AllByRecursion (λ k. AllByRecursion P (below tables k)) (root_numbers f numbers)
each_below_root n r f tables numbers P forest has holds =
    all_map (λ k. AllByRecursion P (below tables k)) (λ j. get_or numbers j 0) (roots_of f)
    (each_member (λ j. AllByRecursion P (below tables (get_or numbers j 0))) (roots_of f)
    (λ j inside.
    each_within n r f tables numbers P forest has holds (suc (get_or numbers j 0)) j (root_in_list (length n.stages) n.arcs f forest j inside).0))

-- the tables at and below a stage's are tight
pub tight_below : (n : Net) (r : Range) (f : Forest) (tables : List Table) (numbers : List ℕ) → IsForest (length n.stages) n.arcs f → HaveTables n r f tables numbers
    → (j : ℕ) → j < length n.stages → AreTightBelow n tables (get_or numbers j 0)
tight_below n r f tables numbers forest has j low =
    each_within n r f tables numbers (IsTightAt n tables) forest has (λ i within. (has i within).tight) (suc (get_or numbers j 0)) j low

pub earlier_below : (n : Net) (tables : List Table) (i : ℕ) → AreTightBelow n tables i → AllByRecursion (HasEarlier tables) (below tables i)
earlier_below n tables i tight =
    each (IsTightAt n tables) (HasEarlier tables) (λ k at. earlier_from_sound n tables k (sound_from_tight n tables k at)) (below tables i) tight

-- below a stage's table are those of the stages below it
stages_below : (n : Net) (r : Range) (f : Forest) (tables : List Table) (numbers : List ℕ) → IsForest (length n.stages) n.arcs f → HaveTables n r f tables numbers
    → (steps j : ℕ) → j < length n.stages → map (λ k. (table_at tables k).stage) (below_within steps tables (get_or numbers j 0)) ≡ stages_within steps f.children j
stages_below n r f tables numbers forest has zero j low = refl
stages_below n r f tables numbers forest has (suc steps) j low =
    let own = (has j low).own in
    let cs = get_or f.children j [] in
    ap (λ i. i ∷ map (λ k. (table_at tables k).stage) (flat_map (below_within steps tables) (table_at tables (get_or numbers j 0)).children)) own.stage
    ∙ ap (λ (ks : List ℕ). j ∷ map (λ k. (table_at tables k).stage) (flat_map (below_within steps tables) ks)) own.children
    ∙ ap (λ (ks : List ℕ). j ∷ ks)
    (map-flat_map (λ k. (table_at tables k).stage) (below_within steps tables) (stages_within steps f.children) (λ c. get_or numbers c 0) cs
    (each_member (λ c. map (λ k. (table_at tables k).stage) (below_within steps tables (get_or numbers c 0)) ≡ stages_within steps f.children c) cs
    (λ c inside. stages_below n r f tables numbers forest has steps c (child_stage (length n.stages) n.arcs f forest j c low inside))))

-- as many steps as there are tables and stages reach all that is below
stages_at : (n : Net) (r : Range) (f : Forest) (tables : List Table) (numbers : List ℕ) → IsForest (length n.stages) n.arcs f → HaveTables n r f tables numbers
    → (j : ℕ) → j < length n.stages → map (λ k. (table_at tables k).stage) (below tables (get_or numbers j 0)) ≡ stages_within (length tables + length n.stages) f.children j
stages_at n r f tables numbers forest has j low =
    let there = (has j low).tight.there in
    let i = get_or numbers j 0 in
    let far = length tables + length n.stages in
    ap (map (λ k. (table_at tables k).stage))
    (below_enough tables (suc i) far i (omega arith) (omega (arith, there)) (earlier_below n tables i (tight_below n r f tables numbers forest has j low)))
    ∙ stages_below n r f tables numbers forest has far j low

-- the roots
root_kind : (arcs : List SupplyArc) (parent : List ℕ) (j : ℕ) (kind : Kind) → IsKindOf arcs parent j kind → get_or parent j 0 ≡ j → kind ≡ Root
root_kind arcs parent j Down is root = absurd (is.0 root)
root_kind arcs parent j Up is root = absurd (is.0 root)
root_kind arcs parent j Root is root = refl

-- the stages at or below the roots' tables
stages_all : (n : Net) (r : Range) (f : Forest) (tables : List Table) (numbers : List ℕ) → IsForest (length n.stages) n.arcs f → HaveTables n r f tables numbers
    → map (λ k. (table_at tables k).stage) (below_roots tables (root_numbers f numbers)) ≡ flat_map (stages_within (length tables + length n.stages) f.children) (roots_of f)
stages_all n r f tables numbers forest has =
    map-flat_map (λ k. (table_at tables k).stage) (below tables) (stages_within (length tables + length n.stages) f.children) (λ j. get_or numbers j 0) (roots_of f)
    (each_member (λ j. map (λ k. (table_at tables k).stage) (below tables (get_or numbers j 0)) ≡ stages_within (length tables + length n.stages) f.children j) (roots_of f)
    (λ j inside. stages_at n r f tables numbers forest has j (root_in_list (length n.stages) n.arcs f forest j inside).0))

pub tight_roots : (n : Net) (r : Range) (f : Forest) (tables : List Table) (numbers : List ℕ) → IsForest (length n.stages) n.arcs f → HaveTables n r f tables numbers
    → AllByRecursion (AreTightBelow n tables) (root_numbers f numbers)
tight_roots n r f tables numbers forest has =
    each_below_root n r f tables numbers (IsTightAt n tables) forest has (λ j low. (has j low).tight)

pub whole_node : (n : Net) (r : Range) (f : Forest) (tables : List Table) (numbers : List ℕ) → IsForest (length n.stages) n.arcs f → HaveTables n r f tables numbers
    → IsWhole n tables (root_numbers f numbers)
whole_node n r f tables numbers forest has =
    let all = each_below (length n.stages) n.arcs f forest (length tables + length n.stages) (omega arith) in
    let same = sym (stages_all n r f tables numbers forest has) in
    record {
      kinds = All-from_recursion (λ k. (table_at tables k).kind ≡ Root) (root_numbers f numbers)
          (all_map (λ k. (table_at tables k).kind ≡ Root) (λ j. get_or numbers j 0) (roots_of f)
          (each_member (λ j. (table_at tables (get_or numbers j 0)).kind ≡ Root) (roots_of f)
          (λ j inside.
          let root = root_in_list (length n.stages) n.arcs f forest j inside in
          root_kind n.arcs f.parent j (table_at tables (get_or numbers j 0)).kind (has j root.0).own.kind root.1)));
      once = subst (λ (js : List ℕ). AllPairs (λ i k. i ≢ k) js) same all.once;
      every = λ j low. subst (λ (js : List ℕ). Contains js j) same (all.each j low);
    }
