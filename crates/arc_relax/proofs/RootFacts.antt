-- The roots, one after the other.
use Rattle.std.proofs.Common.{◌≡◌, ◌≢◌, ℕ, zero, suc, ◌+◌, ◌<◌, ◌≤◌, ◌==◌, Bool, true, false, cond, List, [], ◌∷◌, ◌++◌, length, get_or, map, take, drop, refl, sym, ap, ◌∙◌, subst, ⊎_elim, arith}
use Rattle.std.specs.Prelude.{All, filter, sum_by}
use Rattle.std.specs.List.{flat_map, AllByRecursion}
use Rattle.std.proofs.lemmas.List.{append-nil, map-append, take-append-drop, take_all, take_more}
use Rattle.std.proofs.lemmas.List.Concat.{flat_map-append}
use Rattle.std.proofs.lemmas.List.Elements.{All-from_recursion, All-get_or, filter_more}
use Rattle.std.proofs.lemmas.List.Sums.{sum_by-append, sum_by-cons}
use Rattle.service_model.specs.declared.limits.TheConstants.{INF}
use Rattle.service_model.specs.declared.plan.Plan.{Plan}
use Rattle.service_model.specs.declared.table.Kind.{Kind}
use Rattle.service_model.specs.declared.table.Kind.TheVariants.{Root}
use Rattle.service_model.specs.declared.table.Table.{Table}
use Rattle.service_model.specs.Net.{Net}
use Rattle.service_model.specs.Plans.{HasTimes, stage_cost}
use Rattle.service_model.specs.Tables.{table_at, width}
use Rattle.service_model.specs.Nodes.{below, below_roots, bound_of, IsOnce, IsTightAt, AreSoundBelow, AreTightBelow}
use Rattle.gsm_laws.specs.Traces.{IsAbsent, SameAt, IsTraced, IsTracedNode, IsTraceOf, IsWhole}
use Rattle.gsm_laws.proofs.ElementFacts.{each, all_append, all_both}
use Rattle.gsm_laws.proofs.BelowFacts.{itself, sound_below}
use Rattle.gsm_laws.proofs.AgreeFacts.{Apart, apart_append, apart_from_once, once_from_apart, same_sum, same_traced}
use Rattle.gsm_laws.proofs.WholeFacts.{Roots, whole_cost}
use Rattle.arc_relax.specs.Relaxations.{IsTracedPlan}

-- the numbers of the roots among one stage more
map_cond : (num : ℕ → ℕ) (b : Bool) (j : ℕ) → map num (cond b (j ∷ []) []) ≡ cond b (num j ∷ []) []
map_cond num true j = refl
map_cond num false j = refl

pub one_root : (order parent numbers : List ℕ) (k : ℕ) → k < length order
    → map (λ j. get_or numbers j 0) (filter (λ j. get_or parent j 0 == j) (take (k + 1) order))
    ≡ map (λ j. get_or numbers j 0) (filter (λ j. get_or parent j 0 == j) (take k order))
    ++ cond (get_or parent (get_or order k 0) 0 == get_or order k 0) (get_or numbers (get_or order k 0) 0 ∷ []) []
one_root order parent numbers k within =
    let num = λ (j : ℕ). get_or numbers j 0 in
    let roots = filter (λ j. get_or parent j 0 == j) (take k order) in
    let j = get_or order k 0 in
    ap (map num) (filter_more (λ i. get_or parent i 0 == i) order k 0 within)
    ∙ map-append num roots (cond (get_or parent j 0 == j) (j ∷ []) [])
    ∙ ap (λ (ks : List ℕ). map num roots ++ ks) (map_cond num (get_or parent j 0 == j) j)

-- one root more is traced

abbrev Value : List Table → ℕ → ℕ
Value tables k = get_or (table_at tables k).values 0 0

below_more : (tables : List Table) (ks : List ℕ) (k : ℕ) → below_roots tables (ks ++ k ∷ []) ≡ below_roots tables ks ++ below tables k
below_more tables ks k =
    flat_map-append (below tables) ks (k ∷ []) ∙ ap (λ (ms : List ℕ). flat_map (below tables) ks ++ ms) (append-nil (below tables k))

still_traced : (n : Net) (tables : List Table) (q q' : Plan) (ks : List ℕ) → AllByRecursion (AreTightBelow n tables) ks
    → AllByRecursion (λ k. SameAt q q' (table_at tables k).stage) (below_roots tables ks) → IsTracedNode n tables q ks → IsTracedNode n tables q' ks
still_traced n tables q q' [] tight agree traced = tt
still_traced n tables q q' (k ∷ ks) tight agree traced =
    let parts = all_append (λ m. SameAt q q' (table_at tables m).stage) (below tables k) (below_roots tables ks) agree in
    (same_traced n tables q q' (suc k) k (omega arith) tight.0 parts.0 traced.0, still_traced n tables q q' ks tight.1 parts.1 traced.1)

one_more : (n : Net) (tables : List Table) (ks : List ℕ) (k : ℕ) (p q q' : Plan) → AllByRecursion (AreTightBelow n tables) ks
    → Apart tables (below_roots tables (ks ++ k ∷ [])) → Roots n tables ks p q → IsTraceOf n tables k 0 q q' → Roots n tables (ks ++ k ∷ []) p q'
one_more n tables ks k p q q' tight apart before after =
    let e = below_more tables ks k in
    let parts = apart_append tables (below_roots tables ks) (below tables k) (subst (Apart tables) e apart) in
    let agree = each (λ m. IsAbsent tables (table_at tables m).stage (below tables k)) (λ m. SameAt q q' (table_at tables m).stage)
    (λ m away. after.same (table_at tables m).stage away) (below_roots tables ks) parts.2 in
    let sums = same_sum n tables q q' (below_roots tables ks) agree in
    let cost = λ (m : ℕ). stage_cost n q' (table_at tables m).stage in
    let joined : sum_by cost (below_roots tables (ks ++ k ∷ [])) ≡ sum_by cost (below_roots tables ks) + sum_by cost (below tables k) =
    ap (sum_by cost) e ∙ sum_by-append cost (below_roots tables ks) (below tables k) in
    let added : sum_by (Value tables) (ks ++ k ∷ []) ≡ sum_by (Value tables) ks + sum_by (Value tables) (k ∷ []) = sum_by-append (Value tables) ks (k ∷ []) in
    let last = sum_by-cons (Value tables) k [] in
    record {
      times = after.times;
      same = λ j away.
          let both = all_append (λ m. (table_at tables m).stage ≢ j) (below_roots tables ks) (below tables k) (subst (IsAbsent tables j) e away) in
          let one = before.same j both.0 in
          let two = after.same j both.1 in
          (two.0 ∙ one.0, two.1 ∙ one.1);
      traced = all_both (IsTraced n tables q') ks (k ∷ []) (still_traced n tables q q' ks tight agree before.traced) (after.traced, tt);
      cost = omega (arith, joined, added, last, sums, before.cost, after.cost);
    }

-- the first roots of a whole node
first_apart : (tables : List Table) (ks : List ℕ) (k : ℕ) → Apart tables (below_roots tables ks) → Apart tables (below_roots tables (take k ks))
first_apart tables ks k apart =
    let e : below_roots tables ks ≡ below_roots tables (take k ks) ++ below_roots tables (drop k ks) =
    ap (below_roots tables) (sym (take-append-drop k ks)) ∙ flat_map-append (below tables) (take k ks) (drop k ks) in
    (apart_append tables (below_roots tables (take k ks)) (below_roots tables (drop k ks)) (subst (Apart tables) e apart)).0

first_tight : (n : Net) (tables : List Table) (ks : List ℕ) (k : ℕ) → AllByRecursion (AreTightBelow n tables) ks → AllByRecursion (AreTightBelow n tables) (take k ks)
first_tight n tables ks k tight =
    (all_append (AreTightBelow n tables) (take k ks) (drop k ks) (subst (AllByRecursion (AreTightBelow n tables)) (sym (take-append-drop k ks)) tight)).0

pub roots_none : (n : Net) (tables : List Table) (ks : List ℕ) (p : Plan) → HasTimes n p → Roots n tables (take 0 ks) p p
roots_none n tables ks p times = record { times = times; same = λ j gone. (refl, refl); traced = tt; cost = refl }

pub roots_more : (n : Net) (tables : List Table) (ks : List ℕ) (i : ℕ) (p q q' : Plan) → AllByRecursion (AreTightBelow n tables) ks → IsWhole n tables ks → i < length ks
    → Roots n tables (take i ks) p q → IsTraceOf n tables (get_or ks i 0) 0 q q' → Roots n tables (take (i + 1) ks) p q'
roots_more n tables ks i p q q' tight whole within before after =
    let more : take (i + 1) ks ≡ take i ks ++ get_or ks i 0 ∷ [] = take_more ks i 0 within in
    let apart = first_apart tables ks (i + 1) (apart_from_once tables (below_roots tables ks) whole.once) in
    subst (λ (ms : List ℕ). Roots n tables ms p q') (sym more)
    (one_more n tables (take i ks) (get_or ks i 0) p q q' (first_tight n tables ks i tight)
    (subst (λ (ms : List ℕ). Apart tables (below_roots tables ms)) more apart) before after)

-- after all roots
pub roots_all : (n : Net) (tables : List Table) (ks : List ℕ) (i : ℕ) (p q : Plan) → AllByRecursion (AreTightBelow n tables) ks → IsWhole n tables ks
    → bound_of tables ks < INF → length ks ≤ i → Roots n tables (take i ks) p q → IsTracedPlan n tables ks (bound_of tables ks) q
roots_all n tables ks i p q tight whole small done before =
    let roots = subst (λ (ms : List ℕ). Roots n tables ms p q) (take_all i ks done) before in
    let sound = each (AreTightBelow n tables) (AreSoundBelow n tables) (sound_below n tables) ks tight in
    let all = whole_cost n tables ks q sound whole in
    record { times = roots.times; traced = roots.traced; cost = omega (arith, roots.cost, all, small); small = small }

-- what a root of a whole node is

pub root_tight : (n : Net) (tables : List Table) (ks : List ℕ) (i : ℕ) → AllByRecursion (AreTightBelow n tables) ks → i < length ks → AreTightBelow n tables (get_or ks i 0)
root_tight n tables ks i tight within = All-get_or (AreTightBelow n tables) ks i 0 within (All-from_recursion (AreTightBelow n tables) ks tight)

pub root_once : (n : Net) (tables : List Table) (ks : List ℕ) (i : ℕ) → IsWhole n tables ks → i < length ks → IsOnce tables (below tables (get_or ks i 0))
root_once n tables ks i whole within =
    let apart = first_apart tables ks (i + 1) (apart_from_once tables (below_roots tables ks) whole.once) in
    let more : take (i + 1) ks ≡ take i ks ++ get_or ks i 0 ∷ [] = take_more ks i 0 within in
    let parts = apart_append tables (below_roots tables (take i ks)) (below tables (get_or ks i 0))
    (subst (Apart tables) (below_more tables (take i ks) (get_or ks i 0)) (subst (λ (ms : List ℕ). Apart tables (below_roots tables ms)) more apart)) in
    once_from_apart tables (below tables (get_or ks i 0)) parts.1

value_le : (tables : List Table) (ks : List ℕ) (i : ℕ) → i < length ks → Value tables (get_or ks i 0) ≤ sum_by (Value tables) ks
value_le tables [] i within = absurd (omega arith)
value_le tables (k ∷ ks) zero within = omega (arith, sum_by-cons (Value tables) k ks)
value_le tables (k ∷ ks) (suc i) within = omega (arith, sum_by-cons (Value tables) k ks, value_le tables ks i (omega arith))

pub root_small : (tables : List Table) (ks : List ℕ) (i : ℕ) → bound_of tables ks < INF → i < length ks → get_or (table_at tables (get_or ks i 0)).values 0 0 < INF
root_small tables ks i small within = omega (arith, small, value_le tables ks i within)

-- what the roots' values are

pub roots_there : (n : Net) (tables : List Table) (ks : List ℕ) → AllByRecursion (AreTightBelow n tables) ks → All (λ k. k < length tables) ks
roots_there n tables ks tight =
    All-from_recursion (λ k. k < length tables) ks
    (each (AreTightBelow n tables) (λ k. k < length tables) (λ k at. (itself (IsTightAt n tables) tables (suc k) k (omega arith) at).there) ks tight)

one_value : (n : Net) (t : Table) → t.kind ≡ Root → length t.values ≡ width t.kind n.horizon t.least t.most t.floor → 0 < length t.values
one_value n t root long =
    let one : width t.kind n.horizon t.least t.most t.floor ≡ 1 = ap (λ (kind : Kind). width kind n.horizon t.least t.most t.floor) root in
    omega (arith, one, long)

pub roots_some : (n : Net) (tables : List Table) (ks : List ℕ) → AllByRecursion (AreTightBelow n tables) ks → IsWhole n tables ks → All (λ k. 0 < length (table_at tables k).values) ks
roots_some n tables ks tight whole i d within =
    let k = get_or ks i d in
    let here = itself (IsTightAt n tables) tables (suc k) k (omega arith) (All-from_recursion (AreTightBelow n tables) ks tight i d within) in
    one_value n (table_at tables k) (whole.kinds i d within) here.shaped.sized.values

pub roots_capped : (n : Net) (tables : List Table) (ks : List ℕ) → AllByRecursion (AreTightBelow n tables) ks → IsWhole n tables ks → All (λ k. get_or (table_at tables k).values 0 0 ≤ INF) ks
roots_capped n tables ks tight whole i d within =
    let k = get_or ks i d in
    let here = itself (IsTightAt n tables) tables (suc k) k (omega arith) (All-from_recursion (AreTightBelow n tables) ks tight i d within) in
    ⊎_elim (λ top. omega (arith, top)) (λ at. omega (arith, at.4)) (here.tight.reached 0 (roots_some n tables ks tight whole i d within))
