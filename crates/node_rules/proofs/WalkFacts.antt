-- The walk over the tables at and below the roots, step by step.
use Rattle.std.proofs.Common.{◌≡◌, ◌≢◌, ℕ, ◌+◌, ◌-◌, ◌<◌, Bool, true, false, List, [], ◌∷◌, ◌++◌, length, get_or, set, map, reverse, replicate, refl, sym, ap, ◌∙◌, subst, ⊎_elim, arith}
use Rattle.std.specs.Prelude.{All, AllPairs, Contains}
use Rattle.std.proofs.lemmas.Bool.{cases_eq, both_ways}
use Rattle.std.proofs.lemmas.List.{append-nil, append_assoc, reverse-append, reverse-reverse, map_push, map-append, length-set, length_push, length-append, length-reverse, get_or_push, get_or_append_left, get_or-set_same, get_or-set_other, get_or_at, get_or-reverse, length-replicate}
use Rattle.std.proofs.lemmas.List.Elements.{All-push, All-append, Contains-push, Contains-append_left}
use Rattle.std.proofs.lemmas.List.Quantifiers.{all_pairs_push}
use Rattle.std.proofs.lemmas.List.Concat.{flat_map-append}
use Rattle.service_model.specs.declared.table.Table.{Table}
use Rattle.service_model.specs.Net.{Net}
use Rattle.service_model.specs.Tables.{table_at}
use Rattle.service_model.specs.LocalSums.{Sound}
use Rattle.service_model.specs.Nodes.{below, below_roots, IsOnce}
use Rattle.gsm_laws.proofs.BelowFacts.{below_law, sound_everywhere}
use Rattle.node_rules.specs.Marks.{IsMarked}
use Rattle.node_rules.proofs.MarkFacts.{none_marked}

abbrev stages_of : List Table → List ℕ → List ℕ
stages_of tables ks = map (λ k. (table_at tables k).stage) ks

-- the tables that were met, with what is left of the walk on the stack, its top last; the marked stages are those of the tables that were met, each once
pub record Walked (n : Net) (tables : List Table) (roots met stack : List ℕ) (seen : List Bool) : Type 0 where
  pub long : length seen ≡ length n.stages
  pub split : below_roots tables roots ≡ met ++ below_roots tables (reverse stack)
  pub there : All (λ k. k < length tables) stack
  pub once : IsOnce tables met
  pub unmarked : (j : ℕ) → get_or seen j false ≡ false → All (λ s. s ≢ j) (stages_of tables met)
  pub marked : (j : ℕ) → IsMarked seen j → Contains (stages_of tables met) j

-- nothing was met
pub walk_start : (n : Net) (tables : List Table) (roots met stack : List ℕ) (seen : List Bool) → All (λ k. k < length tables) roots
    → met ≡ [] → stack ≡ reverse roots → seen ≡ replicate (length n.stages) false → Walked n tables roots met stack seen
walk_start n tables roots met stack seen there none all clear =
    subst (λ (ks : List ℕ). Walked n tables roots ks stack seen) (sym none)
    (subst (λ (ks : List ℕ). Walked n tables roots [] ks seen) (sym all)
    (subst (λ (marks : List Bool). Walked n tables roots [] (reverse roots) marks) (sym clear)
    (record {
      long = length-replicate (length n.stages) false;
      split = ap (below_roots tables) (sym (reverse-reverse roots));
      there = all_reverse (length tables) roots there;
      once = λ a b d less within. absurd (omega arith);
      unmarked = λ j off k d within. absurd (omega arith);
      marked = λ j on. absurd (none_marked (length n.stages) j on);
    })))
  where
    all_reverse : (count : ℕ) (ks : List ℕ) → All (λ k. k < count) ks → All (λ k. k < count) (reverse ks)
    all_reverse count ks all k d within =
        let low : k < length ks = omega (arith, within, length-reverse ks) in
        subst (λ x. x < count) (sym (get_or-reverse ks k d low)) (all (length ks - 1 - k) d (omega arith))

-- the top of the stack is a table
pub walk_there : (n : Net) (tables : List Table) (roots met stack rest : List ℕ) (seen : List Bool) (i : ℕ) → Walked n tables roots met stack seen
    → stack ≡ rest ++ i ∷ [] → i < length tables
walk_there n tables roots met stack rest seen i walked is =
    let long : length stack ≡ length rest + 1 = ap length is ∙ length_push rest i in
    subst (λ x. x < length tables) (ap (λ (xs : List ℕ). get_or xs (length rest) i) is ∙ get_or_push rest i i (length rest) refl)
    (walked.there (length rest) i (omega (arith, long)))

-- its stage has a mark
pub walk_stage : (n : Net) (tables : List Table) (roots met stack rest : List ℕ) (seen : List Bool) (i : ℕ) → Sound n tables
    → Walked n tables roots met stack seen → stack ≡ rest ++ i ∷ [] → (table_at tables i).stage < length seen
walk_stage n tables roots met stack rest seen i sound walked is =
    let there = walk_there n tables roots met stack rest seen i walked is in
    let stage = (sound.shaped i there).sized.stage in
    let long = walked.long in
    omega (arith, stage, long)

-- what is left, with its first table out
left_is : (n : Net) (tables : List Table) (rest : List ℕ) (i : ℕ) → Sound n tables → i < length tables
    → below_roots tables (reverse (rest ++ i ∷ [])) ≡ i ∷ (below_roots tables (table_at tables i).children ++ below_roots tables (reverse rest))
left_is n tables rest i sound within =
    ap (below_roots tables) (reverse-append rest (i ∷ []))
    ∙ ap (λ (xs : List ℕ). xs ++ below_roots tables (reverse rest)) (below_law n tables i (sound_everywhere n tables i sound within))

split_is : (n : Net) (tables : List Table) (roots met stack rest : List ℕ) (seen : List Bool) (i : ℕ) → Sound n tables → Walked n tables roots met stack seen
    → stack ≡ rest ++ i ∷ []
    → below_roots tables roots ≡ met ++ (i ∷ (below_roots tables (table_at tables i).children ++ below_roots tables (reverse rest)))
split_is n tables roots met stack rest seen i sound walked is =
    walked.split
    ∙ ap (λ (xs : List ℕ). met ++ xs)
    (ap (λ (xs : List ℕ). below_roots tables (reverse xs)) is
    ∙ left_is n tables rest i sound (walk_there n tables roots met stack rest seen i walked is))

-- a stage that was met before stands twice
pub walk_twice : (n : Net) (tables : List Table) (roots met stack rest : List ℕ) (seen : List Bool) (i : ℕ) → Sound n tables → Walked n tables roots met stack seen
    → stack ≡ rest ++ i ∷ [] → IsMarked seen (table_at tables i).stage → ¬ IsOnce tables (below_roots tables roots)
walk_twice n tables roots met stack rest seen i sound walked is on once =
    let j = (table_at tables i).stage in
    let old = walked.marked (table_at tables i).stage on in
    let tail = below_roots tables (table_at tables i).children ++ below_roots tables (reverse rest) in
    let list : stages_of tables (below_roots tables roots) ≡ stages_of tables met ++ ((table_at tables i).stage ∷ stages_of tables tail) =
    ap (stages_of tables) (split_is n tables roots met stack rest seen i sound walked is) ∙ map-append (λ k. (table_at tables k).stage) met (i ∷ tail) in
    let pairs : AllPairs (λ a b. a ≢ b) (stages_of tables met ++ ((table_at tables i).stage ∷ stages_of tables tail)) = subst (AllPairs (λ a b. a ≢ b)) list once in
    let long = length-append (stages_of tables met) (j ∷ stages_of tables tail) in
    let left = get_or_append_left (stages_of tables met) (j ∷ stages_of tables tail) j old.0 old.1 in
    let right : get_or (stages_of tables met ++ (j ∷ stages_of tables tail)) (length (stages_of tables met)) j ≡ j =
    get_or_at (stages_of tables met) j (stages_of tables tail) j (length (stages_of tables met)) refl in
    pairs old.0 (length (stages_of tables met)) j old.1 (omega (arith, long)) (left ∙ old.2 ∙ sym right)

-- one table more is met
pub walk_more : (n : Net) (tables : List Table) (roots met stack rest stack' : List ℕ) (seen : List Bool) (i : ℕ) → Sound n tables → Walked n tables roots met stack seen
    → stack ≡ rest ++ i ∷ [] → get_or seen (table_at tables i).stage false ≡ false → stack' ≡ rest ++ reverse (table_at tables i).children
    → Walked n tables roots (met ++ i ∷ []) stack' (set seen (table_at tables i).stage true)
walk_more n tables roots met stack rest stack' seen i sound walked is off next =
    let within = walk_there n tables roots met stack rest seen i walked is in
    let low = walk_stage n tables roots met stack rest seen i sound walked is in
    let j = (table_at tables i).stage in
    let cs = (table_at tables i).children in
    let fresh = walked.unmarked j off in
    let more : stages_of tables (met ++ i ∷ []) ≡ stages_of tables met ++ (table_at tables i).stage ∷ [] = map_push (λ k. (table_at tables k).stage) met i in
    record {
      long = length-set seen j true ∙ walked.long;
      split =
          split_is n tables roots met stack rest seen i sound walked is
          ∙ sym (append_assoc met (i ∷ []) (below_roots tables cs ++ below_roots tables (reverse rest)))
          ∙ ap (λ (xs : List ℕ). (met ++ i ∷ []) ++ xs)
          (sym (ap (λ (xs : List ℕ). below_roots tables (reverse xs)) next
          ∙ ap (below_roots tables) (reverse-append rest (reverse cs) ∙ ap (λ (xs : List ℕ). xs ++ reverse rest) (reverse-reverse cs))
          ∙ flat_map-append (below tables) cs (reverse rest)));
      there = subst (All (λ k. k < length tables)) (sym next)
          (All-append (λ k. k < length tables) rest (reverse cs)
          (λ k d inside.
          subst (λ x. x < length tables) (ap (λ (xs : List ℕ). get_or xs k d) is ∙ get_or_append_left rest (i ∷ []) d k inside)
          (walked.there k d (omega (arith, inside, ap length is ∙ length_push rest i))))
          (λ k d inside.
          let inside' : k < length cs = omega (arith, inside, length-reverse cs) in
          let earlier = (sound.shaped i within).earlier (length cs - 1 - k) d (omega arith) in
          subst (λ x. x < length tables) (sym (get_or-reverse cs k d inside')) (omega (arith, earlier, within))));
      once = subst (AllPairs (λ a b. a ≢ b)) (sym more)
          (all_pairs_push (λ a b. a ≢ b) (stages_of tables met) (table_at tables i).stage walked.once (λ k d inside. fresh k d inside));
      unmarked = λ m clear. ⊎_elim
          (λ same. absurd (both_ways _ clear (ap (λ x. get_or (set seen j true) x false) same ∙ get_or-set_same seen j true false low)))
          (λ other.
          subst (All (λ s. s ≢ m)) (sym more)
          (All-push (λ s. s ≢ m) (stages_of tables met) j
          (walked.unmarked m (sym (get_or-set_other seen j m true false other) ∙ clear))
          (λ same. other (sym same))))
          (cases_eq m j);
      marked = λ m on. ⊎_elim
          (λ same.
          subst (λ xs. Contains xs m) (sym more)
          (subst (λ x. Contains (stages_of tables met ++ (table_at tables i).stage ∷ []) x) (sym same) (Contains-push (stages_of tables met) (table_at tables i).stage)))
          (λ other.
          subst (λ xs. Contains xs m) (sym more)
          (Contains-append_left (stages_of tables met) ((table_at tables i).stage ∷ []) m
          (walked.marked m (sym (get_or-set_other seen j m true false other) ∙ on))))
          (cases_eq m j);
    }

-- nothing is left
pub walk_done : (n : Net) (tables : List Table) (roots met stack : List ℕ) (seen : List Bool) → Walked n tables roots met stack seen → stack ≡ []
    → (met ≡ below_roots tables roots) × IsOnce tables met
walk_done n tables roots met stack seen walked is =
    (sym (walked.split ∙ ap (λ (xs : List ℕ). met ++ below_roots tables (reverse xs)) is ∙ append-nil met), walked.once)
