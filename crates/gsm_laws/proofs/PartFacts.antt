-- A traced plan is within the table and traced from its children on, and the other way round.
use Rattle.std.proofs.Common.{ℕ, zero, suc, ◌<◌, List, [], ◌∷◌, arith}
use Rattle.std.specs.List.{flat_map, AllByRecursion}
use Rattle.service_model.specs.declared.plan.Plan.{Plan}
use Rattle.service_model.specs.declared.table.Table.{Table}
use Rattle.service_model.specs.Net.{Net}
use Rattle.service_model.specs.Tables.{table_at}
use Rattle.service_model.specs.Nodes.{below, below_within, Holds, MeetsChild}
use Rattle.gsm_laws.specs.Traces.{TracedWithin, IsTraced, AreTraced}
use Rattle.gsm_laws.proofs.ElementFacts.{all_append}
use Rattle.gsm_laws.proofs.BelowFacts.{HasEarlier, each_child}

-- so many steps deep below these children of a table of stage j
abbrev AreWithin : ℕ → Net → List Table → Plan → ℕ → List ℕ → Type 0
AreWithin steps n tables q j cs =
    AllByRecursion (λ c. MeetsChild (table_at tables c).kind n.arcs q (table_at tables c).stage j × TracedWithin steps n tables q c) cs

enough_children : (n : Net) (tables : List Table) (q : Plan) (j s s' i : ℕ)
    → ((c : ℕ) → c < i → AllByRecursion (HasEarlier tables) (below_within s tables c) → TracedWithin s n tables q c → TracedWithin s' n tables q c)
    → (cs : List ℕ) → AllByRecursion (λ c. c < i) cs → AllByRecursion (HasEarlier tables) (flat_map (below_within s tables) cs)
    → AreWithin s n tables q j cs → AreWithin s' n tables q j cs
enough_children n tables q j s s' i again [] earlier all traced = tt
enough_children n tables q j s s' i again (c ∷ cs) earlier all traced =
    let parts = all_append (HasEarlier tables) (below_within s tables c) (flat_map (below_within s tables) cs) all in
    ((traced.0.0, again c earlier.0 parts.0 traced.0.1), enough_children n tables q j s s' i again cs earlier.1 parts.1 traced.1)

-- enough steps trace alike
pub traced_enough : (n : Net) (tables : List Table) (q : Plan) (s s' i : ℕ) → i < s → i < s' → AllByRecursion (HasEarlier tables) (below_within s tables i)
    → TracedWithin s n tables q i → TracedWithin s' n tables q i
traced_enough n tables q zero s' i low low' all traced = absurd (omega arith)
traced_enough n tables q (suc s) zero i low low' all traced = absurd (omega arith)
traced_enough n tables q (suc s) (suc s') i low low' all traced = (
  traced.0,
  enough_children n tables q (table_at tables i).stage s s' i (λ c earlier rest traced'. traced_enough n tables q s s' c (omega arith) (omega arith) rest traced')
      (table_at tables i).children all.0 all.1 traced.1,
)

over_children : (n : Net) (tables : List Table) (q : Plan) (j i : ℕ) (cs : List ℕ) → AllByRecursion (λ c. c < i) cs
    → AllByRecursion (HasEarlier tables) (flat_map (below_within i tables) cs) → AreWithin i n tables q j cs → AreTraced n tables q j cs
over_children n tables q j i [] earlier all traced = tt
over_children n tables q j i (c ∷ cs) earlier all traced =
    let parts = all_append (HasEarlier tables) (below_within i tables c) (flat_map (below_within i tables) cs) all in
    ((traced.0.0, traced_enough n tables q i (suc c) c earlier.0 (omega arith) parts.0 traced.0.1), over_children n tables q j i cs earlier.1 parts.1 traced.1)

under_table : (n : Net) (tables : List Table) (q : Plan) (j i : ℕ) (cs : List ℕ) → AllByRecursion (λ c. c < i) cs
    → AllByRecursion (λ c. AllByRecursion (HasEarlier tables) (below tables c)) cs → AreTraced n tables q j cs → AreWithin i n tables q j cs
under_table n tables q j i [] earlier all traced = tt
under_table n tables q j i (c ∷ cs) earlier all traced =
    ((traced.0.0, traced_enough n tables q (suc c) i c (omega arith) earlier.0 all.0 traced.0.1), under_table n tables q j i cs earlier.1 all.1 traced.1)

pub traced_parts : (n : Net) (tables : List Table) (q : Plan) (i : ℕ) → AllByRecursion (HasEarlier tables) (below tables i) → IsTraced n tables q i
    → Holds n q (table_at tables i) × AreTraced n tables q (table_at tables i).stage (table_at tables i).children
traced_parts n tables q i all traced =
    (traced.0, over_children n tables q (table_at tables i).stage i (table_at tables i).children all.0 all.1 traced.1)

pub traced_from_parts : (n : Net) (tables : List Table) (q : Plan) (i : ℕ) → AllByRecursion (HasEarlier tables) (below tables i)
    → Holds n q (table_at tables i) → AreTraced n tables q (table_at tables i).stage (table_at tables i).children → IsTraced n tables q i
traced_from_parts n tables q i all holds traced =
    (holds, under_table n tables q (table_at tables i).stage i (table_at tables i).children all.0 (each_child (HasEarlier tables) tables i all all) traced)
