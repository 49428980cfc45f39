-- What is traced, however deep one looks, and what is below tight tables.
use Rattle.std.proofs.Common.{ℕ, zero, suc, ◌≡◌, ◌<◌, ◌≤◌, List, [], ◌∷◌, arith}
use Rattle.std.specs.List.{flat_map, AllByRecursion}
use Rattle.std.proofs.lemmas.List.Elements.{All-from_recursion}
use Rattle.service_model.specs.declared.plan.Plan.{Plan}
use Rattle.service_model.specs.declared.table.Table.{Table}
use Rattle.service_model.specs.Net.{Net}
use Rattle.service_model.specs.Tables.{table_at, IsSized}
use Rattle.service_model.specs.Nodes.{below, below_within, Holds, IsTightAt, AreTightBelow, MeetsChild}
use Rattle.gsm_laws.specs.Traces.{SameAt, TracedWithin, IsTraced}
use Rattle.gsm_laws.proofs.ElementFacts.{each, all_append}
use Rattle.gsm_laws.proofs.BelowFacts.{HasEarlier, earlier_from_sound, sound_from_tight, below_at, each_child}
use Rattle.gsm_laws.proofs.AgreeFacts.{same_meets, same_traced}
use Rattle.tree_tables.specs.Fills.{IsFill}

earlier_at : (n : Net) (tables : List Table) (k : ℕ) → IsTightAt n tables k → HasEarlier tables k
earlier_at n tables k known = earlier_from_sound n tables k (sound_from_tight n tables k known)

earlier_below : (n : Net) (tables : List Table) (i : ℕ) → AreTightBelow n tables i → AllByRecursion (HasEarlier tables) (below tables i)
earlier_below n tables i known = each (IsTightAt n tables) (HasEarlier tables) (earlier_at n tables) (below tables i) known

-- what is below a tight table is the table and what is below its children
pub below_tight : (n : Net) (tables : List Table) (i : ℕ) → AreTightBelow n tables i
    → below tables i ≡ i ∷ flat_map (below tables) (table_at tables i).children
below_tight n tables i known = below_at tables i (earlier_below n tables i known)

pub children_tight : (n : Net) (tables : List Table) (i : ℕ) → AreTightBelow n tables i
    → AllByRecursion (AreTightBelow n tables) (table_at tables i).children
children_tight n tables i known = each_child (IsTightAt n tables) tables i (earlier_below n tables i known) known

-- a tight table is what filling gives
pub fill_from_tight : (n : Net) (tables : List Table) (i : ℕ) → AreTightBelow n tables i → IsFill n tables (table_at tables i)
fill_from_tight n tables i known = record {
  sized = known.0.shaped.sized;
  children = record {
    there = λ k d within. omega (arith, known.0.shaped.earlier k d within, known.0.there);
    sized = All-from_recursion (λ c. IsSized n (table_at tables c)) (table_at tables i).children
        (each (AreTightBelow n tables) (λ c. IsSized n (table_at tables c)) (λ c at. at.0.shaped.sized) (table_at tables i).children (children_tight n tables i known));
    fit = known.0.shaped.children;
  };
  tight = known.0.tight;
}

-- the children of t are traced, and the plan meets their arcs
abbrev pub AreChildrenTraced : Net → List Table → Plan → Table → List ℕ → Type 0
AreChildrenTraced n tables q t cs =
    AllByRecursion (λ c. MeetsChild (table_at tables c).kind n.arcs q (table_at tables c).stage t.stage × IsTraced n tables q c) cs

-- the same so many steps deep
abbrev AreTracedWithin : ℕ → Net → List Table → Plan → Table → List ℕ → Type 0
AreTracedWithin steps n tables q t cs =
    AllByRecursion (λ c. MeetsChild (table_at tables c).kind n.arcs q (table_at tables c).stage t.stage × TracedWithin steps n tables q c) cs

-- children stay traced where the times at them stay
pub keep : (n : Net) (tables : List Table) (t : Table) (p q : Plan) → SameAt p q t.stage → (cs : List ℕ) → AllByRecursion (AreTightBelow n tables) cs
    → AllByRecursion (λ k. SameAt p q (table_at tables k).stage) (flat_map (below tables) cs)
    → AreChildrenTraced n tables p t cs → AreChildrenTraced n tables q t cs
keep n tables t p q here [] known agree traced = tt
keep n tables t p q here (c ∷ cs) known agree traced =
    let parts = all_append (λ k. SameAt p q (table_at tables k).stage) (below tables c) (flat_map (below tables) cs) agree in (
      (
        same_meets (table_at tables c).kind n p q (table_at tables c).stage t.stage parts.0.0 here traced.0.0,
        same_traced n tables p q (suc c) c (omega arith) known.0 parts.0 traced.0.1,
      ),
      keep n tables t p q here cs known.1 parts.1 traced.1,
    )

enough_list : (n : Net) (tables : List Table) (q : Plan) (t : Table) (s s' i : ℕ)
    → ((c : ℕ) → c < i → AllByRecursion (IsTightAt n tables) (below_within s tables c) → TracedWithin s n tables q c → TracedWithin s' n tables q c)
    → (cs : List ℕ) → AllByRecursion (λ c. c < i) cs → AllByRecursion (IsTightAt n tables) (flat_map (below_within s tables) cs)
    → AreTracedWithin s n tables q t cs → AreTracedWithin s' n tables q t cs
enough_list n tables q t s s' i again [] earlier known traced = tt
enough_list n tables q t s s' i again (c ∷ cs) earlier known traced =
    let knowns = all_append (IsTightAt n tables) (below_within s tables c) (flat_map (below_within s tables) cs) known in
    ((traced.0.0, again c earlier.0 knowns.0 traced.0.1), enough_list n tables q t s s' i again cs earlier.1 knowns.1 traced.1)

-- what is traced so many steps deep is traced more steps deep, where the steps reach all tables below
traced_enough : (n : Net) (tables : List Table) (q : Plan) (s s' i : ℕ) → i < s → i < s' → AllByRecursion (IsTightAt n tables) (below_within s tables i)
    → TracedWithin s n tables q i → TracedWithin s' n tables q i
traced_enough n tables q zero s' i low low' known traced = absurd (omega arith)
traced_enough n tables q (suc s) zero i low low' known traced = absurd (omega arith)
traced_enough n tables q (suc s) (suc s') i low low' known traced = (
  traced.0,
  enough_list n tables q (table_at tables i) s s' i (λ c earlier knowns tracedc. traced_enough n tables q s s' c (omega arith) (omega arith) knowns tracedc)
      (table_at tables i).children (earlier_at n tables i known.0) known.1 traced.1,
)

deeper : (n : Net) (tables : List Table) (q : Plan) (t : Table) (s i : ℕ) → i ≤ s → (cs : List ℕ) → AllByRecursion (λ c. c < i) cs
    → AllByRecursion (AreTightBelow n tables) cs → AreChildrenTraced n tables q t cs → AreTracedWithin s n tables q t cs
deeper n tables q t s i low [] earlier known traced = tt
deeper n tables q t s i low (c ∷ cs) earlier known traced = (
  (traced.0.0, traced_enough n tables q (suc c) s c (omega arith) (omega (arith, earlier.0)) known.0 traced.0.1),
  deeper n tables q t s i low cs earlier.1 known.1 traced.1,
)

-- a table is traced where the plan is within it and its children are traced
pub traced_from : (n : Net) (tables : List Table) (q : Plan) (i : ℕ) → AreTightBelow n tables i → Holds n q (table_at tables i)
    → AreChildrenTraced n tables q (table_at tables i) (table_at tables i).children → IsTraced n tables q i
traced_from n tables q i known holds traced =
    (holds, deeper n tables q (table_at tables i) i i (omega arith) (table_at tables i).children (earlier_at n tables i known.0) (children_tight n tables i known) traced)
