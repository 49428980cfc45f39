-- What stands at or below a table, however deep one looks.
use Rattle.std.proofs.Common.{◌≡◌, ℕ, zero, suc, ◌<◌, List, [], ◌∷◌, length, ap, subst, arith}
use Rattle.std.specs.List.{flat_map, AllByRecursion}
use Rattle.std.proofs.lemmas.List.Elements.{recursion_from_All}
use Rattle.service_model.specs.declared.table.Table.{Table}
use Rattle.service_model.specs.Net.{Net}
use Rattle.service_model.specs.Tables.{table_at}
use Rattle.service_model.specs.LocalSums.{Sound, AllTight}
use Rattle.service_model.specs.Nodes.{below, below_within, IsSoundAt, IsTightAt, AreSoundBelow, AreTightBelow}
use Rattle.gsm_laws.specs.Laws.{BelowLaw}
use Rattle.gsm_laws.proofs.ElementFacts.{each, all_append, all_concat, all_parts, flat_map_same}

-- the children of table k are earlier tables
abbrev pub HasEarlier : List Table → ℕ → Type 0
HasEarlier tables k = AllByRecursion (λ c. c < k) (table_at tables k).children

pub earlier_from_sound : (n : Net) (tables : List Table) (k : ℕ) → IsSoundAt n tables k → HasEarlier tables k
earlier_from_sound n tables k sound = recursion_from_All (λ c. c < k) (table_at tables k).children sound.shaped.earlier

pub sound_from_tight : (n : Net) (tables : List Table) (k : ℕ) → IsTightAt n tables k → IsSoundAt n tables k
sound_from_tight n tables k known = record { there = known.there; shaped = known.shaped; lower = known.tight.lower }

pub sound_below : (n : Net) (tables : List Table) (i : ℕ) → AreTightBelow n tables i → AreSoundBelow n tables i
sound_below n tables i known = each (IsTightAt n tables) (IsSoundAt n tables) (sound_from_tight n tables) (below tables i) known

-- the table itself is first
pub itself : (P : ℕ → Type 0) (tables : List Table) (steps i : ℕ) → i < steps → AllByRecursion P (below_within steps tables i) → P i
itself P tables zero i low all = absurd (omega arith)
itself P tables (suc steps) i low all = all.0

same_children : (tables : List Table) (s s' i : ℕ)
    → ((c : ℕ) → c < i → AllByRecursion (HasEarlier tables) (below_within s tables c) → below_within s tables c ≡ below_within s' tables c)
    → (cs : List ℕ) → AllByRecursion (λ c. c < i) cs → AllByRecursion (HasEarlier tables) (flat_map (below_within s tables) cs)
    → AllByRecursion (λ c. below_within s tables c ≡ below_within s' tables c) cs
same_children tables s s' i again [] earlier all = tt
same_children tables s s' i again (c ∷ cs) earlier all =
    let parts = all_append (HasEarlier tables) (below_within s tables c) (flat_map (below_within s tables) cs) all in
    (again c earlier.0 parts.0, same_children tables s s' i again cs earlier.1 parts.1)

-- enough steps give the same list
pub below_enough : (tables : List Table) (s s' i : ℕ) → i < s → i < s' → AllByRecursion (HasEarlier tables) (below_within s tables i)
    → below_within s tables i ≡ below_within s' tables i
below_enough tables zero s' i low low' all = absurd (omega arith)
below_enough tables (suc s) zero i low low' all = absurd (omega arith)
below_enough tables (suc s) (suc s') i low low' all =
    let same = same_children tables s s' i (λ c earlier rest. below_enough tables s s' c (omega arith) (omega arith) rest)
    (table_at tables i).children all.0 all.1 in
    ap (λ (ks : List ℕ). i ∷ ks) (flat_map_same (below_within s tables) (below_within s' tables) (table_at tables i).children same)

-- what is below is the table and what is below its children
pub below_at : (tables : List Table) (i : ℕ) → AllByRecursion (HasEarlier tables) (below tables i)
    → below tables i ≡ i ∷ flat_map (below tables) (table_at tables i).children
below_at tables i all =
    let same = enough (table_at tables i).children all.0 all.1 in
    ap (λ (ks : List ℕ). i ∷ ks) (flat_map_same (below_within i tables) (below tables) (table_at tables i).children same)
  where
    enough : (cs : List ℕ) → AllByRecursion (λ c. c < i) cs → AllByRecursion (HasEarlier tables) (flat_map (below_within i tables) cs)
        → AllByRecursion (λ c. below_within i tables c ≡ below tables c) cs
    enough [] earlier all = tt
    enough (c ∷ cs) earlier all =
        let parts = all_append (HasEarlier tables) (below_within i tables c) (flat_map (below_within i tables) cs) all in
        (below_enough tables i (suc c) c earlier.0 (omega arith) parts.0, enough cs earlier.1 parts.1)

-- what holds at and below a table holds at and below its children
pub each_child : (P : ℕ → Type 0) (tables : List Table) (i : ℕ) → AllByRecursion (HasEarlier tables) (below tables i)
    → AllByRecursion P (below tables i) → AllByRecursion (λ c. AllByRecursion P (below tables c)) (table_at tables i).children
each_child P tables i earlier all =
    all_parts P (below tables) (table_at tables i).children (subst (AllByRecursion P) (below_at tables i earlier) all).1

pub below_law : BelowLaw
below_law n tables i sound =
    below_at tables i (each (IsSoundAt n tables) (HasEarlier tables) (earlier_from_sound n tables) (below tables i) sound)

-- what holds of each table of the list holds at and below each
pub all_below : (P : ℕ → Type 0) (tables : List Table) → ((k : ℕ) → k < length tables → HasEarlier tables k × P k)
    → (steps i : ℕ) → i < length tables → AllByRecursion P (below_within steps tables i)
all_below P tables known zero i within = tt
all_below P tables known (suc steps) i within = (
  (known i within).1,
  all_concat P (below_within steps tables) (table_at tables i).children
      (each (λ c. c < i) (λ c. AllByRecursion P (below_within steps tables c)) (λ c earlier. all_below P tables known steps c (omega arith))
      (table_at tables i).children (known i within).0),
)

-- tables that are sound together are sound at and below each
pub sound_everywhere : (n : Net) (tables : List Table) (i : ℕ) → Sound n tables → i < length tables → AreSoundBelow n tables i
sound_everywhere n tables i sound within =
    all_below (IsSoundAt n tables) tables
    (λ k there. (
      recursion_from_All (λ c. c < k) (table_at tables k).children (sound.shaped k there).earlier,
      record { there = there; shaped = sound.shaped k there; lower = sound.lower k there },
    ))
    (suc i) i within

pub tight_everywhere : (n : Net) (tables : List Table) (i : ℕ) → AllTight n tables → i < length tables → AreTightBelow n tables i
tight_everywhere n tables i known within =
    all_below (IsTightAt n tables) tables
    (λ k there. (
      recursion_from_All (λ c. c < k) (table_at tables k).children (known.shaped k there).earlier,
      record { there = there; shaped = known.shaped k there; tight = known.tight k there },
    ))
    (suc i) i within
