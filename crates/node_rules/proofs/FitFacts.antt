-- The tables at and below the roots, each looked at once, from the last to the first.
use Rattle.std.proofs.Common.{◌≡◌, ℕ, zero, suc, ◌+◌, ◌<◌, ◌≤◌, Bool, false, List, length, replicate, subst, ◌∙◌, ⊎_elim, arith}
use Rattle.std.specs.Prelude.{All}
use Rattle.std.specs.List.{AllByRecursion}
use Rattle.std.proofs.lemmas.Bool.{cases_lt}
use Rattle.std.proofs.lemmas.List.{length-replicate}
use Rattle.std.proofs.lemmas.List.Elements.{All-weaker, All-contains, All-from_recursion, recursion_from_All}
use Rattle.service_model.specs.declared.table.Table.{Table}
use Rattle.service_model.specs.Net.{Net}
use Rattle.service_model.specs.Tables.{table_at}
use Rattle.service_model.specs.LocalSums.{Sound}
use Rattle.service_model.specs.Nodes.{below, below_within, below_roots, IsSoundAt}
use Rattle.gsm_laws.proofs.ElementFacts.{each, each_two, all_concat, all_parts}
use Rattle.gsm_laws.proofs.BelowFacts.{HasEarlier, earlier_from_sound, itself, each_child, sound_everywhere}
use Rattle.node_rules.specs.Marks.{IsMarked, MarksMore}
use Rattle.node_rules.proofs.MarkFacts.{marked_there, none_marked}

-- the fact holds of the marked tables from number i on, and their children are marked; where it holds at and below the
-- roots, it holds at and below each marked table
pub record Looked (P : ℕ → Type 0) (tables : List Table) (roots : List ℕ) (marks : List Bool) (i : ℕ) : Type 0 where
  pub long : length marks ≡ length tables
  pub roots_marked : All (IsMarked marks) roots
  pub above : (k : ℕ) → i ≤ k → IsMarked marks k → P k × All (IsMarked marks) (table_at tables k).children
  pub only : AllByRecursion P (below_roots tables roots) → (k : ℕ) → IsMarked marks k → AllByRecursion P (below tables k)

pub looked_start : (P : ℕ → Type 0) (tables : List Table) (roots : List ℕ) (marks : List Bool) → MarksMore roots (replicate (length tables) false) marks
    → Looked P tables roots marks (length tables)
looked_start P tables roots marks more = record {
  long = more.long ∙ long;
  roots_marked = more.sets;
  above = λ k past is. (let low = marked_there marks k is in let same = more.long in absurd (omega (arith, low, past, same, long)));
  only = λ all k is. ⊎_elim
      (λ was. absurd (none_marked (length tables) k was))
      (λ inside. All-contains (λ c. AllByRecursion P (below tables c)) roots k
      (All-from_recursion (λ c. AllByRecursion P (below tables c)) roots (all_parts P (below tables) roots all)) inside)
      (more.only k is);
}
  where
    long : length (replicate (length tables) false) ≡ length tables
    long = length-replicate (length tables) false

-- a marked table of which the fact holds
pub looked_more : (n : Net) (P : ℕ → Type 0) (tables : List Table) (roots : List ℕ) (marks marks' : List Bool) (j i : ℕ) → Sound n tables
    → j ≡ i + 1 → Looked P tables roots marks j → IsMarked marks i → P i → MarksMore (table_at tables i).children marks marks' → Looked P tables roots marks' i
looked_more n P tables roots marks marks' j i sound next old is holds more =
    let low = marked_there marks i is in
    let long = old.long in
    let there : i < length tables = omega (arith, low, long) in
    let earlier = (sound.shaped i there).earlier in
    let keep = All-weaker (IsMarked marks) (IsMarked marks') more.keeps in
    record {
      long = let same = more.long in omega (arith, same, long);
      roots_marked = keep roots old.roots_marked;
      above = λ k from on. ⊎_elim
          (λ later. ⊎_elim
          (λ was. let at = old.above k (omega (arith, later)) was in (at.0, keep (table_at tables k).children at.1))
          (λ child. let less = All-contains (λ c. c < i) (table_at tables i).children k earlier child in absurd (omega (arith, less, later)))
          (more.only k on))
          (λ here. let same : i ≡ k = omega arith in subst (λ m. P m × All (IsMarked marks') (table_at tables m).children) same (holds, more.sets))
          (cases_lt i k);
      only = λ all k on. ⊎_elim
          (λ was. old.only all k was)
          (λ child.
          All-contains (λ c. AllByRecursion P (below tables c)) (table_at tables i).children k
          (All-from_recursion (λ c. AllByRecursion P (below tables c)) (table_at tables i).children
          (each_child P tables i
          (each (IsSoundAt n tables) (HasEarlier tables) (earlier_from_sound n tables) (below tables i) (sound_everywhere n tables i sound there))
          (old.only all i is)))
          child)
          (more.only k on);
    }

-- a marked table of which it does not hold
pub looked_fails : (P : ℕ → Type 0) (tables : List Table) (roots : List ℕ) (marks : List Bool) (j i : ℕ) → Looked P tables roots marks j
    → IsMarked marks i → ¬ P i → ¬ All P (below_roots tables roots)
looked_fails P tables roots marks j i old is fails all =
    fails (itself P tables (suc i) i (omega arith) (old.only (recursion_from_All P (below_roots tables roots) all) i is))

holds_within : (n : Net) (P : ℕ → Type 0) (tables : List Table) (roots : List ℕ) (marks : List Bool) → Sound n tables → Looked P tables roots marks 0
    → (steps k : ℕ) → k < steps → IsMarked marks k → AllByRecursion P (below_within steps tables k)
holds_within n P tables roots marks sound done zero k low is = absurd (omega arith)
holds_within n P tables roots marks sound done (suc steps) k low is =
    let there : k < length tables = (let long = done.long in let inside = marked_there marks k is in omega (arith, long, inside)) in
    let here = done.above k (omega arith) is in (
      here.0,
      all_concat P (below_within steps tables) (table_at tables k).children
          (below_all (table_at tables k).children
          (recursion_from_All (IsMarked marks) (table_at tables k).children here.1)
          (recursion_from_All (λ c. c < k) (table_at tables k).children (sound.shaped k there).earlier)
          (λ c less on. holds_within n P tables roots marks sound done steps c (omega arith) on)),
    )
  where
    below_all : (cs : List ℕ) → AllByRecursion (IsMarked marks) cs → AllByRecursion (λ c. c < k) cs
        → ((c : ℕ) → c < k → IsMarked marks c → AllByRecursion P (below_within steps tables c)) → AllByRecursion (λ c. AllByRecursion P (below_within steps tables c)) cs
    below_all cs marked earlier holds = each_two (IsMarked marks) (λ c. c < k) (λ c. AllByRecursion P (below_within steps tables c)) (λ c on less. holds c less on) cs marked earlier

-- where all tables are looked at, it holds at and below the roots
pub looked_all : (n : Net) (P : ℕ → Type 0) (tables : List Table) (roots : List ℕ) (marks : List Bool) → Sound n tables → Looked P tables roots marks 0
    → All P (below_roots tables roots)
looked_all n P tables roots marks sound done =
    All-from_recursion P (below_roots tables roots)
    (all_concat P (below tables) roots
    (each (IsMarked marks) (λ k. AllByRecursion P (below tables k)) (λ k is. holds_within n P tables roots marks sound done (suc k) k (omega arith) is)
    roots (recursion_from_All (IsMarked marks) roots done.roots_marked)))

-- what stands at or below the roots are tables
pub below_there : (n : Net) (tables : List Table) (roots : List ℕ) → Sound n tables → All (λ k. k < length tables) roots
    → All (λ k. k < length tables) (below_roots tables roots)
below_there n tables roots sound there =
    All-from_recursion (λ k. k < length tables) (below_roots tables roots)
    (all_concat (λ k. k < length tables) (below tables) roots
    (each (λ k. k < length tables) (λ k. AllByRecursion (λ m. m < length tables) (below tables k))
    (λ k low. each (IsSoundAt n tables) (λ m. m < length tables) (λ m at. at.there) (below tables k) (sound_everywhere n tables k sound low))
    roots (recursion_from_All (λ k. k < length tables) roots there)))
