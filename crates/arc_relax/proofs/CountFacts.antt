-- From no table on, one table is filled for each stage.
use Rattle.std.proofs.Common.{◌≡◌, ◌≢◌, ℕ, suc, ◌<◌, ◌≤◌, List, [], ◌∷◌, true, length, get_or, map, eqb, sym, ap, subst, ◌∙◌, arith}
use Rattle.std.specs.List.{IsDistinct, range_with_len, list_any}
use Rattle.std.proofs.lemmas.List.{length-map, get_or_default}
use Rattle.std.proofs.lemmas.List.Elements.{recursion_from_All}
use Rattle.std.proofs.lemmas.List.FromFn.{get_or-map-range_with_len, length-range_with_len}
use Rattle.std.proofs.lemmas.Map.Steps.{length-le_from_distinct_below, le-length_from_below}
use Rattle.std.proofs.lemmas.Map.Views.{list_any-from_Contains, Contains-from_any}
use Rattle.std.proofs.lemmas.Bool.{eqb-true, ne_eqb}
use Rattle.std.proofs.lemmas.Cmp.{nat_eq_equiv}
use Rattle.service_model.specs.declared.range.Range.{Range}
use Rattle.service_model.specs.declared.table.Table.{Table}
use Rattle.service_model.specs.Net.{Net}
use Rattle.service_model.specs.Tables.{table_at}
use Rattle.tree_order.specs.declared.forest.Forest.{Forest}
use Rattle.arc_relax.specs.StageTables.{HaveTables}
use Rattle.arc_relax.specs.Counts.{StepLaw}

distinct_from : (xs : List ℕ) → ((i j : ℕ) → i < j → j < length xs → get_or xs i 0 ≢ get_or xs j 0) → IsDistinct eqb xs
unfolding IsDistinct
distinct_from [] apart = tt
distinct_from (x ∷ xs) apart = (
  recursion_from_All _ xs (λ k d inside. ne_eqb _ _ (λ same. apart 0 (suc k) (omega arith) (omega (arith, inside)) (same ∙ get_or_default xs k d 0 inside))),
  distinct_from xs (λ i j less inside. apart (suc i) (suc j) (omega arith) (omega arith)),
)

-- the numbers of the first stages
abbrev numbers_to : List ℕ → ℕ → List ℕ
numbers_to numbers n = map (λ j. get_or numbers j 0) (range_with_len 0 n)

long : (numbers : List ℕ) (n : ℕ) → length (numbers_to numbers n) ≡ n
long numbers n = length-map (range_with_len 0 n) (λ j. get_or numbers j 0) ∙ length-range_with_len 0 n

at : (numbers : List ℕ) (n j : ℕ) → j < n → get_or (numbers_to numbers n) j 0 ≡ get_or numbers j 0
at numbers n j low = get_or-map-range_with_len (λ k. get_or numbers k 0) 0 n j j 0 low (omega arith)

-- two stages have two tables
apart : (n : Net) (r : Range) (f : Forest) (tables : List Table) (numbers : List ℕ) (i j : ℕ) → HaveTables n r f tables numbers → i < length n.stages → j < length n.stages → i < j → get_or numbers i 0 ≢ get_or numbers j 0
apart n r f tables numbers i j have low high less =
    λ same. (let one : (table_at tables (get_or numbers i 0)).stage ≡ (table_at tables (get_or numbers j 0)).stage = ap (λ (k : ℕ). (table_at tables k).stage) same in
    let first = (have i low).own.stage in
    let second = (have j high).own.stage in
    let equal : i ≡ j = sym first ∙ one ∙ second in
    omega (arith, less, equal))

-- there are no more tables than stages, where each table is a stage's
pub no_more : (numbers : List ℕ) (n m : ℕ) → ((i : ℕ) → i < m → (j : ℕ) × (j < n) × (get_or numbers j 0 ≡ i)) → m ≤ n
no_more numbers n m fresh =
    let each : (q : ℕ) → q < m → list_any (eqb q) (numbers_to numbers n) ≡ true = λ q low. (let j = fresh q low in
    let inside : j.0 < length (numbers_to numbers n) = omega (arith, j.1, long numbers n) in
    list_any-from_Contains nat_eq_equiv q (numbers_to numbers n) (j.0, inside, get_or_default (numbers_to numbers n) j.0 q 0 inside ∙ at numbers n j.0 j.1 ∙ j.2)) in
    let all = le-length_from_below (numbers_to numbers n) m each in
    omega (arith, all, long numbers n)

-- and no fewer, where each stage has a table of its own
pub no_fewer : (n : Net) (r : Range) (f : Forest) (tables : List Table) (numbers : List ℕ) → HaveTables n r f tables numbers → length n.stages ≤ length tables
no_fewer n r f tables numbers have =
    let xs = numbers_to numbers (length n.stages) in
    let size = long numbers (length n.stages) in
    let differ : (i j : ℕ) → i < j → j < length xs → get_or xs i 0 ≢ get_or xs j 0 = λ i j less inside.
    (let high : j < length n.stages = omega (arith, inside, size) in
    let low : i < length n.stages = omega (arith, less, high) in
    λ same. apart n r f tables numbers i j have low high less (sym (at numbers (length n.stages) i low) ∙ same ∙ at numbers (length n.stages) j high)) in
    let there : (q : ℕ) → list_any (eqb q) xs ≡ true → q < length tables = λ q is.
    (let k = Contains-from_any (λ x y h. eqb-true x y h) q xs is in
    let low : k.0 < length n.stages = omega (arith, k.1, size) in
    subst (λ (x : ℕ). x < length tables) (sym (at numbers (length n.stages) k.0 low) ∙ get_or_default xs k.0 0 q k.1 ∙ k.2) (have k.0 low).tight.there) in
    let few = length-le_from_distinct_below xs (length tables) (distinct_from xs differ) there in
    omega (arith, few, size)

pub step_law : StepLaw
step_law n f r new count count' x is =
    let more : length new ≤ length n.stages = no_more is.numbers (length n.stages) (length new) (λ i low. is.fresh i (omega arith) low) in
    let fewer = no_fewer n r f new is.numbers is.tables in
    let steps = is.steps in
    omega (arith, more, fewer, steps)
