-- The steps of the recursion that reads a plan back.
use Rattle.std.proofs.Common.{ℕ, zero, suc, ◌≡◌, ◌≢◌, ◌+◌, ◌<◌, ◌≤◌, List, [], ◌∷◌, ◌++◌, length, get_or, map, take, drop, sym, ap, ◌∙◌, subst, arith}
use Rattle.std.specs.Prelude.{sum_by}
use Rattle.std.specs.List.{flat_map, AllByRecursion}
use Rattle.std.proofs.lemmas.List.{take_more, take_all, take-append-drop}
use Rattle.std.proofs.lemmas.List.Sums.{sum_by-cons}
use Rattle.std.proofs.lemmas.List.Concat.{flat_map-append}
use Rattle.service_model.specs.declared.limits.TheConstants.{INF}
use Rattle.service_model.specs.declared.plan.Plan.{Plan}
use Rattle.service_model.specs.declared.table.Table.{Table}
use Rattle.service_model.specs.Net.{Net}
use Rattle.service_model.specs.Tables.{table_at}
use Rattle.service_model.specs.LocalSums.{least_below}
use Rattle.service_model.specs.Nodes.{below, AreTightBelow, IsOnce}
use Rattle.gsm_laws.specs.Traces.{IsAbsent, IsTraceOf}
use Rattle.gsm_laws.proofs.ElementFacts.{all_append}
use Rattle.gsm_laws.proofs.AgreeFacts.{Apart, apart_append, apart_from_once}
use Rattle.tree_tables.specs.Fills.{IsFill}
use Rattle.tree_tables.specs.Steps.{Attains, IsChildPlace, IsTraceable, with_times}
use Rattle.tree_tables.proofs.DepthFacts.{below_tight, children_tight, fill_from_tight}
use Rattle.tree_tables.proofs.ChildFacts.{AreTraced, Soon, listed, one_more, finish}

absent_at : (tables : List Table) (j : ℕ) (ks : List ℕ) → IsAbsent tables j ks → (k d : ℕ) → k < length (map (λ m. (table_at tables m).stage) ks)
    → get_or (map (λ m. (table_at tables m).stage) ks) k d ≢ j
absent_at tables j [] absent k d within = absurd (omega arith)
absent_at tables j (m ∷ ks) absent zero d within = absent.0
absent_at tables j (m ∷ ks) absent (suc k) d within = absent_at tables j ks absent.1 k d (omega arith)

once_from_apart : (tables : List Table) (ks : List ℕ) → Apart tables ks → IsOnce tables ks
once_from_apart tables [] apart i k d less within = absurd (omega arith)
once_from_apart tables (m ∷ ks) apart zero zero d less within = absurd (omega arith)
once_from_apart tables (m ∷ ks) apart zero (suc k) d less within = λ same. absent_at tables (table_at tables m).stage ks apart.0 k d (omega arith) (sym same)
once_from_apart tables (m ∷ ks) apart (suc i) zero d less within = absurd (omega arith)
once_from_apart tables (m ∷ ks) apart (suc i) (suc k) d less within = once_from_apart tables ks apart.1 i k d (omega arith) (omega arith)

-- the children's tables, up to the k-th and after it
parted : (tables : List Table) (cs : List ℕ) (k : ℕ)
    → flat_map (below tables) cs ≡ flat_map (below tables) (take k cs) ++ flat_map (below tables) (drop k cs)
parted tables cs k = ap (flat_map (below tables)) (sym (take-append-drop k cs)) ∙ flat_map-append (below tables) (take k cs) (drop k cs)

front_apart : (tables : List Table) (cs : List ℕ) (k : ℕ) → Apart tables (flat_map (below tables) cs) → Apart tables (flat_map (below tables) (take k cs))
front_apart tables cs k apart =
    (apart_append tables (flat_map (below tables) (take k cs)) (flat_map (below tables) (drop k cs)) (subst (Apart tables) (parted tables cs k) apart)).0

front_absent : (tables : List Table) (j : ℕ) (cs : List ℕ) (k : ℕ) → IsAbsent tables j (flat_map (below tables) cs)
    → IsAbsent tables j (flat_map (below tables) (take k cs))
front_absent tables j cs k absent =
    (all_append (λ m. (table_at tables m).stage ≢ j) (flat_map (below tables) (take k cs)) (flat_map (below tables) (drop k cs))
    (subst (IsAbsent tables j) (parted tables cs k) absent)).0

front_each : (P : ℕ → Type 0) (cs : List ℕ) (k : ℕ) → AllByRecursion P cs → AllByRecursion P (take k cs)
front_each P cs k all = (all_append P (take k cs) (drop k cs) (subst (AllByRecursion P) (sym (take-append-drop k cs)) all)).0

member_of : (P : ℕ → Type 0) (cs : List ℕ) (k : ℕ) → k < length cs → AllByRecursion P cs → P (get_or cs k 0)
member_of P [] k within all = absurd (omega arith)
member_of P (c ∷ cs) zero within all = all.0
member_of P (c ∷ cs) (suc k) within all = member_of P cs k (omega arith) all.1

member_le : (f : ℕ → ℕ) (cs : List ℕ) (k : ℕ) → k < length cs → f (get_or cs k 0) ≤ sum_by f cs
member_le f [] k within = absurd (omega arith)
member_le f (c ∷ cs) zero within = omega (arith, sum_by-cons f c cs)
member_le f (c ∷ cs) (suc k) within = omega (arith, sum_by-cons f c cs, member_le f cs k (omega arith))

-- a child of a table whose value is below INF has a least value below INF
child_small : (n : Net) (tables : List Table) (t : Table) (x a b k : ℕ) → Attains n tables t x a b → get_or t.values x 0 < INF → k < length t.children
    → least_below n t a b (table_at tables (get_or t.children k 0)) < INF
child_small n tables t x a b k at small within =
    let f = λ (c : ℕ). least_below n t a b (table_at tables c) in
    let member : f (get_or t.children k 0) ≤ sum_by f t.children = member_le f t.children k within in
    omega (arith, at.value, small, member)

-- the table's own stage is not below its children, where no stage stands twice
own_parts : (n : Net) (tables : List Table) (i : ℕ) → AreTightBelow n tables i → IsOnce tables (below tables i)
    → IsAbsent tables (table_at tables i).stage (flat_map (below tables) (table_at tables i).children)
    × Apart tables (flat_map (below tables) (table_at tables i).children)
own_parts n tables i known once = subst (Apart tables) (below_tight n tables i known) (apart_from_once tables (below tables i) once)

pub fill_of : (n : Net) (tables : List Table) (t : Table) (i : ℕ) → t ≡ table_at tables i → AreTightBelow n tables i → IsFill n tables t
fill_of n tables t i e known = subst (IsFill n tables) (sym e) (fill_from_tight n tables i known)

-- before the k-th child
ready_at : (n : Net) (tables : List Table) (i x a b k y : ℕ) (p q : Plan) → IsTraceable n tables i x p → Attains n tables (table_at tables i) x a b
    → Soon n tables (table_at tables i) a b k p q → k < length (table_at tables i).children
    → IsChildPlace n (table_at tables (get_or (table_at tables i).children k 0)) (table_at tables i) a b y
    → (get_or (table_at tables i).children k 0 < i) × IsTraceable n tables (get_or (table_at tables i).children k 0) y q
ready_at n tables i x a b k y p q can at soon inside stands =
    let cs = (table_at tables i).children in
    let c = get_or cs k 0 in
    let parts = own_parts n tables i can.tight can.once in
    let more : take (k + 1) cs ≡ take k cs ++ c ∷ [] = take_more cs k 0 inside in
    let listed' = ap (flat_map (below tables)) more ∙ listed tables (take k cs) c in
    let apart = apart_append tables (flat_map (below tables) (take k cs)) (below tables c) (subst (Apart tables) listed' (front_apart tables cs (k + 1) parts.1)) in (
      can.tight.0.shaped.earlier k 0 inside,
      record {
        tight = member_of (AreTightBelow n tables) cs k inside (children_tight n tables i can.tight);
        once = once_from_apart tables (below tables c) apart.1;
        within = stands.within;
        reached = omega (arith, stands.value, child_small n tables (table_at tables i) x a b k at can.reached inside);
        times = soon.times;
      },
    )

pub ready : (n : Net) (tables : List Table) (t : Table) (i x a b k y : ℕ) (p q : Plan) → t ≡ table_at tables i → IsTraceable n tables i x p
    → Attains n tables t x a b → Soon n tables t a b k p q → k < length t.children
    → IsChildPlace n (table_at tables (get_or t.children k 0)) t a b y
    → (get_or t.children k 0 < i) × IsTraceable n tables (get_or t.children k 0) y q
ready n tables t i x a b k y p q e can at soon inside stands =
    subst (λ (u : Table). (get_or u.children k 0 < i) × IsTraceable n tables (get_or u.children k 0) y q) (sym e)
    (ready_at n tables i x a b k y p q can
    (subst (λ (u : Table). Attains n tables u x a b) e at)
    (subst (λ (u : Table). Soon n tables u a b k p q) e soon)
    (subst (λ (u : Table). k < length u.children) e inside)
    (subst (λ (u : Table). IsChildPlace n (table_at tables (get_or u.children k 0)) u a b y) e stands))

-- after the k-th child
next_at : (n : Net) (tables : List Table) (i x a b k y : ℕ) (p q q' : Plan) → IsTraceable n tables i x p
    → Soon n tables (table_at tables i) a b k p q → k < length (table_at tables i).children
    → IsChildPlace n (table_at tables (get_or (table_at tables i).children k 0)) (table_at tables i) a b y
    → IsTraceOf n tables (get_or (table_at tables i).children k 0) y q q' → Soon n tables (table_at tables i) a b (k + 1) p q'
next_at n tables i x a b k y p q q' can soon inside stands after =
    let t = table_at tables i in
    let c = get_or t.children k 0 in
    let parts = own_parts n tables i can.tight can.once in
    let more : take (k + 1) t.children ≡ take k t.children ++ c ∷ [] = take_more t.children k 0 inside in
    subst (λ cs. AreTraced n tables t a b cs (with_times p t.stage a b) q') (sym more)
    (one_more n tables t a b (take k t.children) c y (with_times p t.stage a b) q q'
    (front_each (AreTightBelow n tables) t.children k (children_tight n tables i can.tight))
    (subst (λ cs. Apart tables (flat_map (below tables) cs)) more (front_apart tables t.children (k + 1) parts.1))
    (subst (λ cs. IsAbsent tables t.stage (flat_map (below tables) cs)) more (front_absent tables t.stage t.children (k + 1) parts.0))
    soon stands after)

pub next_child : (n : Net) (tables : List Table) (t : Table) (i x a b k y : ℕ) (p q q' : Plan) → t ≡ table_at tables i → IsTraceable n tables i x p
    → Soon n tables t a b k p q → k < length t.children → IsChildPlace n (table_at tables (get_or t.children k 0)) t a b y
    → IsTraceOf n tables (get_or t.children k 0) y q q' → Soon n tables t a b (k + 1) p q'
next_child n tables t i x a b k y p q q' e can soon inside stands after =
    subst (λ (u : Table). Soon n tables u a b (k + 1) p q') (sym e)
    (next_at n tables i x a b k y p q q' can
    (subst (λ (u : Table). Soon n tables u a b k p q) e soon)
    (subst (λ (u : Table). k < length u.children) e inside)
    (subst (λ (u : Table). IsChildPlace n (table_at tables (get_or u.children k 0)) u a b y) e stands)
    (subst (λ (u : Table). IsTraceOf n tables (get_or u.children k 0) y q q') e after))

-- after the last child
pub last_child : (n : Net) (tables : List Table) (t : Table) (i x a b k : ℕ) (p q : Plan) → t ≡ table_at tables i → IsTraceable n tables i x p
    → Attains n tables t x a b → Soon n tables t a b k p q → length t.children ≤ k → IsTraceOf n tables i x p q
last_child n tables t i x a b k p q e can at soon done =
    let u = table_at tables i in
    finish n tables i x a b p q can.tight can.reached (subst (λ (v : Table). Attains n tables v x a b) e at)
    (subst (λ cs. AreTraced n tables u a b cs (with_times p u.stage a b) q)
    (take_all k u.children (subst (λ (v : Table). length v.children ≤ k) e done))
    (subst (λ (v : Table). Soon n tables v a b k p q) e soon))
