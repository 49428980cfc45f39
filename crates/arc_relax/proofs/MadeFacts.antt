-- The tables of the stages, made along the forest's order.
use Rattle.std.proofs.Common.{◌≡◌, ◌≢◌, ℕ, ◌+◌, ◌<◌, ◌≤◌, Result, Ok, Err, List, [], ◌∷◌, ◌++◌, length, get_or, set, map, refl, sym, ap, ◌∙◌, subst, inl, inr, ⊎_elim, append_assoc, arith}
use Rattle.std.specs.Prelude.{All, Contains, ◌⊎◌}
use Rattle.std.specs.List.{AllByRecursion}
use Rattle.std.specs.Result.{OnErr}
use Rattle.std.proofs.lemmas.Bool.{cases_lt}
use Rattle.std.proofs.lemmas.List.{append-nil, get_or_append_left, length_push, length-set, get_or-set_same, get_or-set_other, get_or_default}
use Rattle.std.proofs.lemmas.List.Elements.{All-map, All-from_recursion}
use Rattle.service_model.specs.declared.range.Range.{Range}
use Rattle.service_model.specs.declared.table.Table.{Table}
use Rattle.service_model.specs.Net.{Net}
use Rattle.service_model.specs.Ranges.{HasIntervals}
use Rattle.service_model.specs.Tables.{table_at, no_table, IsChild, IsSized}
use Rattle.service_model.specs.Nodes.{IsTightAt}
use Rattle.service_model.specs.Relaxed.{IsKindOf, IsTableOf}
use Rattle.tree_order.specs.declared.forest.Forest.{Forest}
use Rattle.tree_order.specs.Forest.{IsForest}
use Rattle.tree_order.proofs.ForestLaws.{order_each, each_long, children_first}
use Rattle.tree_tables.specs.declared.wanted.Wanted.{Wanted}
use Rattle.tree_tables.specs.Fills.{IsWanted, IsAsWanted}
use Rattle.tree_tables.proofs.FillLaws.{tight_at_grown}
use Rattle.table_pool.specs.Pools.{IsFoundOrFilled, IsUnchanged}
use Rattle.arc_relax.specs.StageTables.{HasTable, IsWantedOf, IsLonger, StandInOrder, AreMade, IsGrown}
use Rattle.arc_relax.proofs.ListFacts.{each_member}
use Rattle.arc_relax.proofs.TableFacts.{child_stage, child_own, kind_child}

-- the order is as long as there are stages
pub order_long : (n : Net) (f : Forest) → IsForest (length n.stages) n.arcs f → length f.order ≡ length n.stages
order_long n f forest = each_long (length n.stages) f.order (order_each (length n.stages) n.arcs f forest)

-- a child stands before its parent in the order
child_before : (n : Net) (f : Forest) → IsForest (length n.stages) n.arcs f → (k c : ℕ) → k < length f.order → Contains (get_or f.children (get_or f.order k 0) []) c
    → (m : ℕ) × (m < k) × (get_or f.order m 0 ≡ c)
child_before n f forest k c within inside =
    let each = order_each (length n.stages) n.arcs f forest in
    let j = get_or f.order k 0 in
    let low : j < length n.stages = each.low k 0 within in
    let own = child_own (length n.stages) n.arcs f forest j c low inside in
    let at = each.each c (child_stage (length n.stages) n.arcs f forest j c low inside) in
    let is : get_or f.order at.0 0 ≡ c = get_or_default f.order at.0 0 c at.1 ∙ at.2 in
    let le = children_first (length n.stages) n.arcs f forest at.0 k at.1 within (ap (λ i. get_or f.parent i 0) is ∙ own.0) in
    ⊎_elim
    (λ less. (at.0, less, is))
    (λ past. absurd (own.1 (ap (λ i. get_or f.order i 0) (let same : k ≡ at.0 = omega (arith, le, past) in same) ∙ is)))
    (cases_lt at.0 k)

-- what holds of the numbers of a stage's children
pub each_number : (P : ℕ → Type 0) (numbers cs : List ℕ) → ((c : ℕ) → Contains cs c → P (get_or numbers c 0)) → All P (map (λ c. get_or numbers c 0) cs)
each_number P numbers cs holds =
    All-map P (λ c. get_or numbers c 0) cs (All-from_recursion (λ c. P (get_or numbers c 0)) cs (each_member (λ c. P (get_or numbers c 0)) cs holds))

-- the tables of the children of the next stage are made
child_made : (n : Net) (r : Range) (f : Forest) (old new : List Table) (count count' : ℕ) (numbers : List ℕ) (k : ℕ) → IsForest (length n.stages) n.arcs f
    → AreMade n r f old new count count' numbers k → k < length f.order → (c : ℕ) → Contains (get_or f.children (get_or f.order k 0) []) c → HasTable n r f new numbers c
child_made n r f old new count count' numbers k forest made within c inside =
    let at = child_before n f forest k c within inside in
    subst (HasTable n r f new numbers) at.2 (made.made at.0 at.1)

-- the next table may be filled
pub next_wanted : (n : Net) (r : Range) (f : Forest) (old new : List Table) (count count' : ℕ) (numbers : List ℕ) (k : ℕ) (w : Wanted) → IsForest (length n.stages) n.arcs f
    → HasIntervals n r → AreMade n r f old new count count' numbers k → k < length f.order → IsWantedOf n r f numbers (get_or f.order k 0) w → IsWanted n new w
next_wanted n r f old new count count' numbers k w forest intervals made within is =
    let j = get_or f.order k 0 in
    let low : j < length n.stages = (order_each (length n.stages) n.arcs f forest).low k 0 within in
    let cs = get_or f.children j [] in
    let child = child_made n r f old new count count' numbers k forest made within in
    let all = λ (P : ℕ → Type 0) (holds : (c : ℕ) → Contains cs c → P (get_or numbers c 0)). subst (All P) (sym is.children) (each_number P numbers cs holds) in
    let small = intervals.interval j low in
    let late = intervals.within j low in
    record {
      stage = omega (arith, is.stage, low);
      interval = omega (arith, is.least, is.most, small);
      within = omega (arith, is.most, late);
      floor = omega (arith, is.floor);
      children = record {
        there = subst (All (λ c. c < length new)) (sym is.children) (each_number (λ c. c < length new) numbers cs (λ c inside. (child c inside).tight.there));
        sized = subst (All (λ c. IsSized n (table_at new c))) (sym is.children) (each_number (λ c. IsSized n (table_at new c)) numbers cs (λ c inside. (child c inside).tight.shaped.sized));
        fit = subst (All (λ c. IsChild (table_at new c).kind n.arcs (table_at new c).stage w.stage)) (sym is.children)
            (each_number (λ c. IsChild (table_at new c).kind n.arcs (table_at new c).stage w.stage) numbers cs
            (λ c inside.
            let t = table_at new (get_or numbers c 0) in
            let own = (child c inside).own in
            let fit = kind_child n.arcs f.parent j c t.kind own.kind (child_own (length n.stages) n.arcs f forest j c low inside) in
            subst (λ x. IsChild t.kind n.arcs x w.stage) (sym own.stage) (subst (λ y. IsChild t.kind n.arcs c y) (sym is.stage) fit)));
      };
    }

-- longer pools

pub longer_by : (n : Net) (new new' : List Table) (w : Wanted) (count count' id : ℕ) → IsFoundOrFilled n new new' w count count' id → IsLonger new new'
longer_by n new new' w count count' id found = ⊎_elim
    (λ held. ([], held.same ∙ sym (append-nil new)))
    (λ added. (added.table ∷ [], added.more))
    found.change

longer_still : (old new new' : List Table) → IsLonger old new → IsLonger new new' → IsLonger old new'
longer_still old new new' first second =
    (first.0 ++ second.0, second.1 ∙ ap (λ (ts : List Table). ts ++ second.0) first.1 ∙ append_assoc old first.0 second.0)

-- one more number

numbers_kept : (numbers : List ℕ) (j id : ℕ) (cs : List ℕ) → AllByRecursion (λ c. c ≢ j) cs → map (λ c. get_or numbers c 0) cs ≡ map (λ c. get_or (set numbers j id) c 0) cs
numbers_kept numbers j id [] others = refl
numbers_kept numbers j id (c ∷ cs) others =
    ap (λ x. x ∷ map (λ i. get_or numbers i 0) cs) (sym (get_or-set_other numbers j c id 0 others.0))
    ∙ ap (λ (xs : List ℕ). get_or (set numbers j id) c 0 ∷ xs) (numbers_kept numbers j id cs others.1)

-- the table of a stage stays, where neither it nor a child of it is given a number
table_kept : (n : Net) (r : Range) (f : Forest) (new more : List Table) (numbers : List ℕ) (j id i : ℕ) → HasTable n r f new numbers i → i ≢ j
    → ((c : ℕ) → Contains (get_or f.children i []) c → c ≢ j) → HasTable n r f (new ++ more) (set numbers j id) i
table_kept n r f new more numbers j id i has other others =
    let number : get_or (set numbers j id) i 0 ≡ get_or numbers i 0 = get_or-set_other numbers j i id 0 other in
    let table : table_at (new ++ more) (get_or numbers i 0) ≡ table_at new (get_or numbers i 0) = get_or_append_left new more no_table (get_or numbers i 0) has.tight.there in
    let own = has.own in
    record {
      tight = subst (IsTightAt n (new ++ more)) (sym number) (tight_at_grown n new more (get_or numbers i 0) has.tight);
      own = subst (λ k. IsTableOf n r f.parent f.children (set numbers j id) i (table_at (new ++ more) k)) (sym number)
          (subst (IsTableOf n r f.parent f.children (set numbers j id) i) (sym table)
          (record {
            stage = own.stage;
            kind = own.kind;
            least = own.least;
            most = own.most;
            floor = own.floor;
            children = own.children ∙ numbers_kept numbers j id (get_or f.children i []) (each_member (λ c. c ≢ j) (get_or f.children i []) others);
          }));
    }

-- the table of the stage that is given a number
table_new : (n : Net) (r : Range) (f : Forest) (new' : List Table) (numbers : List ℕ) (j id : ℕ) (w : Wanted) → j < length numbers → IsWantedOf n r f numbers j w
    → IsTightAt n new' id → IsAsWanted w (table_at new' id) → ((c : ℕ) → Contains (get_or f.children j []) c → c ≢ j) → HasTable n r f new' (set numbers j id) j
table_new n r f new' numbers j id w low is tight alike others =
    let number : get_or (set numbers j id) j 0 ≡ id = get_or-set_same numbers j id 0 low in
    record {
      tight = subst (IsTightAt n new') (sym number) tight;
      own = subst (λ k. IsTableOf n r f.parent f.children (set numbers j id) j (table_at new' k)) (sym number)
          (record {
            stage = alike.stage ∙ is.stage;
            kind = subst (IsKindOf n.arcs f.parent j) (sym alike.kind) is.kind;
            least = alike.least ∙ is.least;
            most = alike.most ∙ is.most;
            floor = alike.floor ∙ is.floor;
            children = alike.children ∙ is.children ∙ numbers_kept numbers j id (get_or f.children j []) (each_member (λ c. c ≢ j) (get_or f.children j []) others);
          });
    }

-- how much longer, and in how many steps
steps_more : (n : Net) (new new' : List Table) (w : Wanted) (count count' id : ℕ) → IsFoundOrFilled n new new' w count count' id
    → ((count' ≡ count) × (length new' ≡ length new)) ⊎ ((count' ≡ count + 1) × (length new' ≡ length new + 1) × (id ≡ length new))
steps_more n new new' w count count' id found = ⊎_elim
    (λ held. inl (held.no_step, ap length held.same))
    (λ added. inr (added.step, ap length added.more ∙ length_push new added.table, added.last))
    found.change

-- the order of the new tables

-- tables stand in order still, as others come behind
pub stand_still : (order : List ℕ) (tables more : List Table) (from to : ℕ) → to ≤ length tables → StandInOrder order tables from to
    → StandInOrder order (tables ++ more) from to
stand_still order tables more from to there stand i k late less early =
    let at = stand i k late less early in
    let kept = λ (m : ℕ) (low : m < length tables). sym (ap (λ (t : Table). t.stage) (get_or_append_left tables more no_table m low)) in
    (at.0, at.1, at.2, at.3, at.4 ∙ kept i (omega (arith, less, early, there)), at.5 ∙ kept k (omega (arith, early, there)))

-- one more stands behind the others, where its stage is the next of the order
one_behind : (order : List ℕ) (old new new' : List Table) (first : ℕ) → first < length order → IsLonger new new'
    → ((i : ℕ) → length old ≤ i → i < length new → (m : ℕ) × (m < first) × ((table_at new i).stage ≡ get_or order m 0))
    → (length new' ≡ length new) ⊎ ((length new' ≡ length new + 1) × ((table_at new' (length new)).stage ≡ get_or order first 0))
    → StandInOrder order new (length old) (length new) → StandInOrder order new' (length old) (length new')
one_behind order old new new' first within longer stages long stand i k late less early =
    let still = subst (λ (ts : List Table). StandInOrder order ts (length old) (length new)) (sym longer.1)
    (stand_still order new longer.0 (length old) (length new) (omega arith) stand) in
    ⊎_elim
    (λ before. still i k late less before)
    (λ past. ⊎_elim
    (λ same. absurd (omega (arith, same, early, past)))
    (λ one.
    let here : length new ≡ k = omega (arith, one.0, early, past) in
    let low : i < length new = omega (arith, less, here) in
    let at = stages i late low in
    let kept : (table_at new' i).stage ≡ (table_at new i).stage =
    ap (λ (ts : List Table). (table_at ts i).stage) longer.1 ∙ ap (λ (t : Table). t.stage) (get_or_append_left new longer.0 no_table i low) in
    (at.0, first, at.1, within, sym (kept ∙ at.2), sym (ap (λ m. (table_at new' m).stage) (sym here) ∙ one.1)))
    long)
    (cases_lt k (length new))

-- a new table is that of a stage behind
fresh_stage : (n : Net) (r : Range) (f : Forest) (old new : List Table) (count count' : ℕ) (numbers : List ℕ) (first : ℕ)
    → AreMade n r f old new count count' numbers first → (i : ℕ) → length old ≤ i → i < length new
    → (m : ℕ) × (m < first) × ((table_at new i).stage ≡ get_or f.order m 0)
fresh_stage n r f old new count count' numbers first made i late early =
    let at = made.fresh i late early in
    (at.0, at.1, ap (λ k. (table_at new k).stage) (sym at.2) ∙ (made.made at.0 at.1).own.stage)

-- the next stage of the order has its table
pub next_made : (n : Net) (r : Range) (f : Forest) (old new new' : List Table) (count count' count'' : ℕ) (numbers : List ℕ) (k id : ℕ) (w : Wanted) → IsForest (length n.stages) n.arcs f
    → AreMade n r f old new count count' numbers k → k < length f.order → IsWantedOf n r f numbers (get_or f.order k 0) w → IsFoundOrFilled n new new' w count' count'' id
    → AreMade n r f old new' count count'' (set numbers (get_or f.order k 0) id) (k + 1)
next_made n r f old new new' count count' count'' numbers k id w forest made within is found =
    let each = order_each (length n.stages) n.arcs f forest in
    let j = get_or f.order k 0 in
    let low : j < length n.stages = each.low k 0 within in
    let longer = longer_by n new new' w count' count'' id found in
    let steps = steps_more n new new' w count' count'' id found in
    let apart = λ (m : ℕ) (less : m < k). each.once m k 0 less within in
    let others = λ (m : ℕ) (le : m ≤ k) (c : ℕ) (inside : Contains (get_or f.children (get_or f.order m 0) []) c) (same : c ≡ j).
    let at = child_before n f forest m c (omega (arith, le, within)) inside in
    apart at.0 (omega (arith, at.1, le)) (at.2 ∙ same) in
    record {
      pool = found.pool;
      longer = longer_still old new new' made.longer longer;
      steps = ⊎_elim (λ held. omega (arith, held.0, held.1, made.steps)) (λ added. omega (arith, added.0, added.1, made.steps)) steps;
      few = ⊎_elim (λ held. omega (arith, held.1, made.few)) (λ added. omega (arith, added.1, made.few)) steps;
      long = length-set numbers j id ∙ made.long;
      made = λ m less. ⊎_elim
          (λ before.
          subst (λ (ts : List Table). HasTable n r f ts (set numbers j id) (get_or f.order m 0)) (sym longer.1)
          (table_kept n r f new longer.0 numbers j id (get_or f.order m 0) (made.made m before) (apart m before) (others m (omega (arith, before)))))
          (λ last.
          let here : k ≡ m = omega (arith, less, last) in
          subst (λ i. HasTable n r f new' (set numbers j id) (get_or f.order i 0)) here
          (table_new n r f new' numbers j id w (omega (arith, low, made.long)) is
          (record { there = found.there; shaped = found.pool.tight.shaped id found.there; tight = found.pool.tight.tight id found.there })
          found.wanted (others k (omega arith))))
          (cases_lt m k);
      fresh = λ i late early. ⊎_elim
          (λ before.
          let was = made.fresh i late before in
          (was.0, omega (arith, was.1), get_or-set_other numbers j (get_or f.order was.0 0) id 0 (apart was.0 was.1) ∙ was.2))
          (λ past. ⊎_elim
          (λ held. absurd (omega (arith, held.1, early, past)))
          (λ added. (k, omega arith, get_or-set_same numbers j id 0 (omega (arith, low, made.long)) ∙ omega (arith, added.1, added.2, early, past)))
          steps)
          (cases_lt i (length new));
      turns = one_behind f.order old new new' k within longer (fresh_stage n r f old new count count' numbers k made)
          (⊎_elim
          (λ held. inl held.1)
          (λ added. inr (added.1, ap (λ m. (table_at new' m).stage) (sym added.2) ∙ found.wanted.stage ∙ is.stage))
          steps)
          made.turns;
    }

-- where the next stage's table is not made, the pool has grown, and the count kept its room
pub grown_so_far : (n : Net) (r : Range) (f : Forest) (old new : List Table) (count count' : ℕ) (numbers : List ℕ) (k : ℕ) → k ≤ length n.stages → AreMade n r f old new count count' numbers k → IsGrown n old new count count'
grown_so_far n r f old new count count' numbers k low is =
    let steps = is.steps in
    let few = is.few in
    record {
      pool = is.pool;
      longer = is.longer;
      no_fewer = omega (arith, steps);
      few = omega (arith, steps);
      room = omega (arith, steps, few, low);
    }

-- the same, where a step was taken for nothing
pub grown_by_one : (n : Net) (r : Range) (f : Forest) (old new after : List Table) (count count' counted : ℕ) (numbers : List ℕ) (k : ℕ) → k < length n.stages → AreMade n r f old new count count' numbers k
    → IsUnchanged new after count' counted → IsGrown n old after count counted
grown_by_one n r f old new after count count' counted numbers k low is unchanged =
    let steps = is.steps in
    let few = is.few in
    let no_fewer = unchanged.no_fewer in
    let one = unchanged.few in
    subst (λ (ts : List Table). IsGrown n old ts count counted) (sym unchanged.same) (record {
      pool = is.pool;
      longer = is.longer;
      no_fewer = omega (arith, steps, no_fewer);
      few = omega (arith, steps, one);
      room = omega (arith, steps, few, low, one);
    })

-- a fact that holds, on an error
pub on_error : {T E P : Type 0} (r : Result T E) → P → OnErr r P
on_error (Ok x) p = tt
on_error (Err e) p = p
