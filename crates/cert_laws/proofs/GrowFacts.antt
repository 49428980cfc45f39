-- Lists of tables that grow.
use Rattle.std.proofs.Common.{◌≡◌, ◌≢◌, ℕ, zero, suc, ◌<◌, List, [], ◌∷◌, ◌++◌, length, get_or, map, refl, sym, ap, ◌∙◌, subst, ⊎_elim, arith}
use Rattle.std.specs.Prelude.{All, AllPairs, sum_by}
use Rattle.std.specs.List.{flat_map, AllByRecursion}
use Rattle.std.proofs.lemmas.Bool.{cases_lt}
use Rattle.std.proofs.lemmas.List.{length-append, length_push, get_or_append_left, get_or_push}
use Rattle.std.proofs.lemmas.List.Sums.{sum_by-cons}
use Rattle.std.proofs.lemmas.List.Elements.{recursion_from_All, All-from_recursion}
use Rattle.service_model.specs.declared.table.Table.{Table}
use Rattle.service_model.specs.Net.{Net}
use Rattle.service_model.specs.Tables.{no_table, table_at, IsChild, IsShaped}
use Rattle.service_model.specs.LocalSums.{least_below, Local, Sound}
use Rattle.service_model.specs.Nodes.{below, below_within, below_roots, IsSoundAt, Fits, IsOnce}
use Rattle.service_model.specs.CertRules.{IsTable}
use Rattle.gsm_laws.proofs.ElementFacts.{each, each_two, all_concat, flat_map_same}
use Rattle.gsm_laws.proofs.BelowFacts.{sound_everywhere}
use Rattle.cert_laws.specs.Laws.{TableMoreLaw, NodeStaysLaw}

-- both lists have the same tables at these numbers
abbrev pub Agree : List Table → List Table → List ℕ → Type 0
Agree xs ys cs = AllByRecursion (λ c. table_at xs c ≡ table_at ys c) cs

agree_more : (tables more : List Table) (cs : List ℕ) → AllByRecursion (λ c. c < length tables) cs → Agree tables (tables ++ more) cs
agree_more tables more cs there =
    each (λ c. c < length tables) (λ c. table_at tables c ≡ table_at (tables ++ more) c)
    (λ c within. sym (get_or_append_left tables more no_table c within)) cs there

sums_agree : (n : Net) (xs ys : List Table) (t : Table) (inbound outbound : ℕ) (cs : List ℕ) → Agree xs ys cs
    → sum_by (λ c. least_below n t inbound outbound (table_at xs c)) cs ≡ sum_by (λ c. least_below n t inbound outbound (table_at ys c)) cs
sums_agree n xs ys t inbound outbound [] agree = refl
sums_agree n xs ys t inbound outbound (c ∷ cs) agree =
    let rest = sums_agree n xs ys t inbound outbound cs agree.1 in
    let first = ap (λ (x : Table). least_below n t inbound outbound x) agree.0 in
    let split = sum_by-cons (λ d. least_below n t inbound outbound (table_at xs d)) c cs in
    let split' = sum_by-cons (λ d. least_below n t inbound outbound (table_at ys d)) c cs in
    omega (arith, rest, first, split, split')

pub local_agree : (n : Net) (xs ys : List Table) (t : Table) → Agree xs ys t.children → Local n xs t → Local n ys t
local_agree n xs ys t agree local inbound outbound covers =
    omega (arith, local inbound outbound covers, sums_agree n xs ys t inbound outbound t.children agree)

pub children_agree : (n : Net) (xs ys : List Table) (j : ℕ) (cs : List ℕ) → Agree xs ys cs
    → All (λ c. IsChild (table_at xs c).kind n.arcs (table_at xs c).stage j) cs → All (λ c. IsChild (table_at ys c).kind n.arcs (table_at ys c).stage j) cs
children_agree n xs ys j cs agree children =
    All-from_recursion (λ c. IsChild (table_at ys c).kind n.arcs (table_at ys c).stage j) cs
    (each_two (λ c. table_at xs c ≡ table_at ys c) (λ c. IsChild (table_at xs c).kind n.arcs (table_at xs c).stage j)
    (λ c. IsChild (table_at ys c).kind n.arcs (table_at ys c).stage j)
    (λ c same child. subst (λ (x : Table). IsChild x.kind n.arcs x.stage j) same child) cs agree
    (recursion_from_All (λ c. IsChild (table_at xs c).kind n.arcs (table_at xs c).stage j) cs children))

-- the tables at these numbers are among the tables
there_from_All : (tables : List Table) (i : ℕ) (cs : List ℕ) → i < suc (length tables) → All (λ c. c < i) cs → AllByRecursion (λ c. c < length tables) cs
there_from_All tables i cs low earlier =
    recursion_from_All (λ c. c < length tables) cs (λ k d within. let less = earlier k d within in omega (arith, less))

-- table i, and one table more
record SoundTable (n : Net) (tables : List Table) (i : ℕ) (t : Table) : Type 0 where
  shaped : IsShaped n tables i t
  lower : Local n tables t

old_table : (n : Net) (tables more : List Table) (i : ℕ) → Sound n tables → i < length tables → SoundTable n (tables ++ more) i (table_at tables i)
old_table n tables more i sound within =
    let shaped = sound.shaped i within in
    let agree = agree_more tables more (table_at tables i).children (there_from_All tables i _ (omega arith) shaped.earlier) in
    record {
      shaped = record {
        sized = shaped.sized;
        earlier = shaped.earlier;
        children = children_agree n tables (tables ++ more) (table_at tables i).stage (table_at tables i).children agree shaped.children;
      };
      lower = local_agree n tables (tables ++ more) (table_at tables i) agree (sound.lower i within);
    }

new_table : (n : Net) (tables : List Table) (t : Table) → IsTable n t → All (λ c. c < length tables) t.children
    → All (λ c. IsChild (table_at tables c).kind n.arcs (table_at tables c).stage t.stage) t.children → Local n tables t
    → SoundTable n (tables ++ t ∷ []) (length tables) t
new_table n tables t table earlier children local =
    let agree = agree_more tables (t ∷ []) t.children (recursion_from_All (λ c. c < length tables) t.children earlier) in
    record {
      shaped = record {
        sized = table.sized;
        earlier = earlier;
        children = children_agree n tables (tables ++ t ∷ []) t.stage t.children agree children;
      };
      lower = local_agree n tables (tables ++ t ∷ []) t agree local;
    }

each_table : (n : Net) (tables : List Table) (t : Table) → Sound n tables → SoundTable n (tables ++ t ∷ []) (length tables) t → (i : ℕ)
    → i < length (tables ++ t ∷ []) → SoundTable n (tables ++ t ∷ []) i (table_at (tables ++ t ∷ []) i)
each_table n tables t sound new i within = ⊎_elim
    (λ old. subst (SoundTable n (tables ++ t ∷ []) i) (sym (get_or_append_left tables (t ∷ []) no_table i old)) (old_table n tables (t ∷ []) i sound old))
    (λ late.
    let last : length tables ≡ i = omega (arith, length_push tables t) in
    subst (SoundTable n (tables ++ t ∷ []) i) (sym (get_or_push tables t no_table i last))
    (subst (λ k. SoundTable n (tables ++ t ∷ []) k t) last new))
    (cases_lt i (length tables))

pub table_more_law : TableMoreLaw
table_more_law n tables t sound table earlier children local =
    let new = new_table n tables t table earlier children local in
    record {
      shaped = λ i within. (each_table n tables t sound new i within).shaped;
      lower = λ i within. (each_table n tables t sound new i within).lower;
    }

-- ---- nodes
pub below_grown : (n : Net) (tables more : List Table) → Sound n tables → (steps i : ℕ) → i < length tables
    → below_within steps (tables ++ more) i ≡ below_within steps tables i
below_grown n tables more sound zero i within = refl
below_grown n tables more sound (suc steps) i within =
    let old = get_or_append_left tables more no_table i within in
    let same = each (λ c. c < i) (λ c. below_within steps (tables ++ more) c ≡ below_within steps tables c)
    (λ c less. below_grown n tables more sound steps c (omega arith))
    (table_at tables i).children (recursion_from_All (λ c. c < i) (table_at tables i).children (sound.shaped i within).earlier) in
    ap (λ (x : Table). i ∷ flat_map (below_within steps (tables ++ more)) x.children) old ∙ ap (λ (ks : List ℕ). i ∷ ks) (flat_map_same _ _ _ same)

pub below_there : (n : Net) (tables : List Table) (roots : List ℕ) → Sound n tables → AllByRecursion (λ k. k < length tables) roots
    → AllByRecursion (λ k. k < length tables) (below_roots tables roots)
below_there n tables roots sound there =
    all_concat (λ k. k < length tables) (below tables) roots
    (each (λ k. k < length tables) (λ k. AllByRecursion (λ i. i < length tables) (below tables k))
    (λ k within. each (IsSoundAt n tables) (λ i. i < length tables) (λ i at. at.there) (below tables k) (sound_everywhere n tables k sound within)) roots there)

pub map_agree : (f g : ℕ → ℕ) (ks : List ℕ) → AllByRecursion (λ k. f k ≡ g k) ks → map f ks ≡ map g ks
map_agree f g [] same = refl
map_agree f g (k ∷ ks) same = let rest = map_agree f g ks same.1 in let first = same.0 in cc

once_agree : (xs ys : List Table) (ks : List ℕ) → Agree xs ys ks → IsOnce xs ks → IsOnce ys ks
once_agree xs ys ks agree once =
    subst (AllPairs (λ i j. i ≢ j))
    (map_agree (λ k. (table_at xs k).stage) (λ k. (table_at ys k).stage) ks
    (each (λ k. table_at xs k ≡ table_at ys k) (λ k. (table_at xs k).stage ≡ (table_at ys k).stage) (λ k same. ap (λ (x : Table). x.stage) same) ks agree))
    once

pub node_stays_law : NodeStaysLaw
node_stays_law n tables more r roots sound node =
    let there = recursion_from_All (λ k. k < length tables) roots node.there in
    let long = length-append tables more in
    let same : below_roots (tables ++ more) roots ≡ below_roots tables roots =
    flat_map_same (below (tables ++ more)) (below tables) roots
    (each (λ k. k < length tables) (λ k. below (tables ++ more) k ≡ below tables k) (λ k within. below_grown n tables more sound (suc k) k within) roots there) in
    let agree = agree_more tables more (below_roots tables roots) (below_there n tables roots sound there) in
    record {
      there = λ k d within. omega (arith, node.there k d within, long);
      kinds = λ k d within. ap (λ (x : Table). x.kind) (get_or_append_left tables more no_table (get_or roots k d) (node.there k d within)) ∙ node.kinds k d within;
      fits = subst (All (λ k. Fits n r (table_at (tables ++ more) k))) (sym same)
          (All-from_recursion (λ k. Fits n r (table_at (tables ++ more) k)) (below_roots tables roots)
          (each_two (λ k. table_at tables k ≡ table_at (tables ++ more) k) (λ k. Fits n r (table_at tables k)) (λ k. Fits n r (table_at (tables ++ more) k))
          (λ k is fits. subst (Fits n r) is fits) (below_roots tables roots) agree (recursion_from_All (λ k. Fits n r (table_at tables k)) (below_roots tables roots) node.fits)));
      once = subst (IsOnce (tables ++ more)) (sym same) (once_agree tables (tables ++ more) (below_roots tables roots) agree node.once);
    }
