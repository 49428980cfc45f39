-- A node and its bound stay as tables come behind the node's.
use Rattle.std.proofs.Common.{◌≡◌, ◌≢◌, ℕ, suc, ◌<◌, List, ◌++◌, length, get_or, map, sym, ap, ◌∙◌, subst, arith, length-append}
use Rattle.std.specs.Prelude.{All, AllPairs, Contains, sum}
use Rattle.std.specs.List.{AllByRecursion}
use Rattle.std.proofs.lemmas.List.{get_or_append_left}
use Rattle.std.proofs.lemmas.List.Sums.{sum-map}
use Rattle.std.proofs.lemmas.List.Elements.{recursion_from_All}
use Rattle.service_model.specs.declared.range.Range.{Range}
use Rattle.service_model.specs.declared.table.Table.{Table}
use Rattle.service_model.specs.Net.{Net}
use Rattle.service_model.specs.Tables.{table_at, no_table}
use Rattle.service_model.specs.LocalSums.{capped, Sound}
use Rattle.service_model.specs.Nodes.{below, below_roots}
use Rattle.service_model.specs.Relaxed.{IsRelaxedLeast, IsTableOf}
use Rattle.gsm_laws.specs.Traces.{IsWhole}
use Rattle.gsm_laws.proofs.ElementFacts.{each, flat_map_same}
use Rattle.cert_laws.proofs.GrowFacts.{below_grown, below_there, map_agree}
use Rattle.tree_order.specs.declared.forest.Forest.{Forest}
use Rattle.tree_tables.proofs.FillLaws.{tight_at_grown}
use Rattle.arc_relax.specs.StageTables.{HasTable}
use Rattle.arc_relax.specs.Laws.{HasPlan}
use Rattle.range_nodes.specs.Nodes.{AreSearched}
use Rattle.range_nodes.specs.Laws.{NodeStaysLaw, BoundStaysLaw}
use Rattle.range_nodes.proofs.FrontFacts.{sound_front}

-- what is read of tables is the same in a longer list
same_read : (g : Table → ℕ) (tables more : List Table) (ks : List ℕ) → AllByRecursion (λ k. k < length tables) ks
    → map (λ k. g (table_at (tables ++ more) k)) ks ≡ map (λ k. g (table_at tables k)) ks
same_read g tables more ks there =
    map_agree (λ k. g (table_at (tables ++ more) k)) (λ k. g (table_at tables k)) ks
    (each (λ k. k < length tables) (λ k. g (table_at (tables ++ more) k) ≡ g (table_at tables k))
    (λ k within. ap g (get_or_append_left tables more no_table k within)) ks there)

pub bound_stays : BoundStaysLaw
bound_stays n f tables more r x node =
    let roots = x.roots in
    let there = recursion_from_All (λ k. k < length tables) roots node.there in
    let value = λ (t : Table). get_or t.values 0 0 in
    ap capped (sym (sum-map (λ k. value (table_at (tables ++ more) k)) roots)
    ∙ ap sum (same_read value tables more roots there)
    ∙ sum-map (λ k. value (table_at tables k)) roots)

table_stays : (n : Net) (r : Range) (f : Forest) (tables more : List Table) (numbers : List ℕ) (j : ℕ) → HasTable n r f tables numbers j
    → HasTable n r f (tables ++ more) numbers j
table_stays n r f tables more numbers j has =
    let k = get_or numbers j 0 in
    record {
      tight = tight_at_grown n tables more k has.tight;
      own = subst (IsTableOf n r f.parent f.children numbers j) (sym (get_or_append_left tables more no_table k has.tight.there)) has.own;
    }

below_same : (n : Net) (tables more : List Table) (roots : List ℕ) → Sound n tables → AllByRecursion (λ k. k < length tables) roots
    → below_roots (tables ++ more) roots ≡ below_roots tables roots
below_same n tables more roots sound there =
    flat_map_same (below (tables ++ more)) (below tables) roots
    (each (λ k. k < length tables) (λ k. below (tables ++ more) k ≡ below tables k) (λ k within. below_grown n tables more sound (suc k) k within) roots there)

-- the tables at or below the roots stay
pub below_stays : (n : Net) (tables more : List Table) (roots : List ℕ) → AreSearched n (tables ++ more) → All (λ k. k < length tables) roots
    → below_roots (tables ++ more) roots ≡ below_roots tables roots
below_stays n tables more roots searched inside =
    below_same n tables more roots (sound_front n tables more searched.pool.tight) (recursion_from_All (λ k. k < length tables) roots inside)

whole_stays : (n : Net) (tables more : List Table) (roots : List ℕ) → Sound n tables → All (λ k. k < length tables) roots → IsWhole n tables roots
    → IsWhole n (tables ++ more) roots
whole_stays n tables more roots sound inside whole =
    let there = recursion_from_All (λ k. k < length tables) roots inside in
    let stage = λ (t : Table). t.stage in
    let same = below_same n tables more roots sound there in
    let stages : map (λ k. stage (table_at (tables ++ more) k)) (below_roots (tables ++ more) roots) ≡ map (λ k. stage (table_at tables k)) (below_roots tables roots) =
    ap (map (λ k. stage (table_at (tables ++ more) k))) same ∙ same_read stage tables more (below_roots tables roots) (below_there n tables roots sound there) in
    record {
      kinds = λ k d within. ap (λ (t : Table). t.kind) (get_or_append_left tables more no_table (get_or roots k d) (inside k d within)) ∙ whole.kinds k d within;
      once = subst (AllPairs (λ i j. i ≢ j)) (sym stages) whole.once;
      every = λ j low. subst (λ (js : List ℕ). Contains js j) (sym stages) (whole.every j low);
    }

pub node_stays : NodeStaysLaw
node_stays n f tables more r x searched node =
    let bound = bound_stays n f tables more r x node in
    record {
      numbers = node.numbers;
      stages = λ j low. table_stays n r f tables more node.numbers j (node.stages j low);
      roots = node.roots;
      there = λ k d within. (let low = node.there k d within in omega (arith, low, length-append tables more));
      whole = whole_stays n tables more x.roots (sound_front n tables more searched.pool.tight) node.there node.whole;
      least = subst (IsRelaxedLeast n r f.parent) (sym bound) node.least;
      plan = subst (λ b. HasPlan n r f.parent b x.relaxed) (sym bound) node.plan;
    }
