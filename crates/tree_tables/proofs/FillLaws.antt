-- What was filled stays tight as tables are put behind it.
use Rattle.std.proofs.Common.{ℕ, zero, suc, ◌≡◌, ◌+◌, ◌<◌, List, [], ◌∷◌, ◌++◌, length, refl, sym, ap, ◌∙◌, subst, inl, inr, ⊎_elim, arith, length-append}
use Rattle.std.specs.Prelude.{sum_by, All}
use Rattle.std.specs.List.{flat_map, AllByRecursion}
use Rattle.std.proofs.lemmas.List.{get_or_push, get_or_append_left}
use Rattle.std.proofs.lemmas.List.Sums.{sum_by-cons}
use Rattle.std.proofs.lemmas.List.Elements.{recursion_from_All, All-from_recursion}
use Rattle.service_model.specs.declared.table.Table.{Table}
use Rattle.service_model.specs.Net.{Net, stage_at}
use Rattle.service_model.specs.Plans.{charge}
use Rattle.service_model.specs.Tables.{table_at, no_table, IsChild, IsShaped}
use Rattle.service_model.specs.LocalSums.{capped, least_below, local_sum, Tight}
use Rattle.service_model.specs.Nodes.{below, below_within, IsTightAt, AreTightBelow}
use Rattle.gsm_laws.proofs.ElementFacts.{each, each_two, all_append, all_concat, flat_map_same}
use Rattle.gsm_laws.proofs.BelowFacts.{HasEarlier, earlier_from_sound, sound_from_tight, below_enough}
use Rattle.tree_tables.specs.Fills.{IsFill}

-- table c is the same in both lists
abbrev Stays : List Table → List Table → ℕ → Type 0
Stays tables more c = table_at (tables ++ more) c ≡ table_at tables c

stays : (tables more : List Table) (c : ℕ) → c < length tables → Stays tables more c
stays tables more c within = get_or_append_left tables more no_table c within

same_sums : (n : Net) (tables more : List Table) (t : Table) (i o : ℕ) (cs : List ℕ) → AllByRecursion (Stays tables more) cs
    → sum_by (λ c. least_below n t i o (table_at (tables ++ more) c)) cs ≡ sum_by (λ c. least_below n t i o (table_at tables c)) cs
same_sums n tables more t i o [] same = refl
same_sums n tables more t i o (c ∷ cs) same =
    let rest = same_sums n tables more t i o cs same.1 in
    let first = ap (λ (u : Table). least_below n t i o u) same.0 in
    let new = sum_by-cons (λ m. least_below n t i o (table_at (tables ++ more) m)) c cs in
    let old = sum_by-cons (λ m. least_below n t i o (table_at tables m)) c cs in
    omega (arith, rest, first, new, old)

same_local : (n : Net) (tables more : List Table) (t : Table) (i o : ℕ) → AllByRecursion (Stays tables more) t.children
    → local_sum n (tables ++ more) t i o ≡ local_sum n tables t i o
same_local n tables more t i o same =
    ap (λ x. capped (charge (stage_at n t.stage).lead (stage_at n t.stage).cost i o + x)) (same_sums n tables more t i o t.children same)

-- a table is as tight over more tables, where its children are among the first
pub tight_grown : (n : Net) (tables more : List Table) (t : Table) → AllByRecursion (λ c. c < length tables) t.children → Tight n tables t → Tight n (tables ++ more) t
tight_grown n tables more t there tight =
    let same = each (λ c. c < length tables) (Stays tables more) (stays tables more) t.children there in
    record {
      lower = λ i o covers. let e = same_local n tables more t i o same in omega (arith, tight.lower i o covers, e);
      reached = λ k within. ⊎_elim
          (λ top. inl top)
          (λ at. inr (at.0, at.1, at.2, at.3, at.4 ∙ sym (same_local n tables more t at.0 at.1 same)))
          (tight.reached k within);
    }

children_grown : (n : Net) (tables more : List Table) (j : ℕ) (cs : List ℕ) → AllByRecursion (λ c. c < length tables) cs
    → All (λ c. IsChild (table_at tables c).kind n.arcs (table_at tables c).stage j) cs
    → All (λ c. IsChild (table_at (tables ++ more) c).kind n.arcs (table_at (tables ++ more) c).stage j) cs
children_grown n tables more j cs there fit =
    let is = λ (u : Table). IsChild u.kind n.arcs u.stage j in
    All-from_recursion (λ c. is (table_at (tables ++ more) c)) cs
    (each_two (λ c. c < length tables) (λ c. is (table_at tables c)) (λ c. is (table_at (tables ++ more) c))
    (λ c within child. subst is (sym (stays tables more c within)) child) cs there (recursion_from_All (λ c. is (table_at tables c)) cs fit))

-- a tight table of a list is one of a longer list
pub tight_at_grown : (n : Net) (tables more : List Table) (k : ℕ) → IsTightAt n tables k → IsTightAt n (tables ++ more) k
tight_at_grown n tables more k known =
    let t = table_at tables k in
    let there = recursion_from_All (λ c. c < length tables) t.children (λ m d within. omega (arith, known.shaped.earlier m d within, known.there)) in
    let shaped : IsShaped n (tables ++ more) k t = record {
      sized = known.shaped.sized;
      earlier = known.shaped.earlier;
      children = children_grown n tables more t.stage t.children there known.shaped.children;
    } in
    record {
      there = omega (arith, length-append tables more, known.there);
      shaped = subst (IsShaped n (tables ++ more) k) (sym (stays tables more k known.there)) shaped;
      tight = subst (Tight n (tables ++ more)) (sym (stays tables more k known.there)) (tight_grown n tables more t there known.tight);
    }

-- what is filled is tight where it is put behind the others
pub tight_at_filled : (n : Net) (tables : List Table) (t : Table) → IsFill n tables t → IsTightAt n (tables ++ t ∷ []) (length tables)
tight_at_filled n tables t filled =
    let own : table_at (tables ++ t ∷ []) (length tables) ≡ t = get_or_push tables t no_table (length tables) refl in
    let there = recursion_from_All (λ c. c < length tables) t.children filled.children.there in
    let shaped : IsShaped n (tables ++ t ∷ []) (length tables) t = record {
      sized = filled.sized;
      earlier = filled.children.there;
      children = children_grown n tables (t ∷ []) t.stage t.children there filled.children.fit;
    } in
    record {
      there = omega (arith, length-append tables (t ∷ []));
      shaped = subst (IsShaped n (tables ++ t ∷ []) (length tables)) (sym own) shaped;
      tight = subst (Tight n (tables ++ t ∷ [])) (sym own) (tight_grown n tables (t ∷ []) t there filled.tight);
    }

same_below_list : (n : Net) (tables more : List Table) (s : ℕ)
    → ((c : ℕ) → AllByRecursion (IsTightAt n tables) (below_within s tables c) → below_within s (tables ++ more) c ≡ below_within s tables c)
    → (cs : List ℕ) → AllByRecursion (IsTightAt n tables) (flat_map (below_within s tables) cs)
    → AllByRecursion (λ c. below_within s (tables ++ more) c ≡ below_within s tables c) cs
same_below_list n tables more s again [] known = tt
same_below_list n tables more s again (c ∷ cs) known =
    let parts = all_append (IsTightAt n tables) (below_within s tables c) (flat_map (below_within s tables) cs) known in
    (again c parts.0, same_below_list n tables more s again cs parts.1)

-- below a tight table of a list stand the same tables in a longer list
pub same_below : (n : Net) (tables more : List Table) (s i : ℕ) → AllByRecursion (IsTightAt n tables) (below_within s tables i)
    → below_within s (tables ++ more) i ≡ below_within s tables i
same_below n tables more zero i known = refl
same_below n tables more (suc s) i known =
    let own = ap (λ (u : Table). i ∷ flat_map (below_within s (tables ++ more)) u.children) (stays tables more i known.0.there) in
    let rest = flat_map_same (below_within s (tables ++ more)) (below_within s tables) (table_at tables i).children
    (same_below_list n tables more s (same_below n tables more s) (table_at tables i).children known.1) in
    own ∙ ap (λ (ks : List ℕ). i ∷ ks) rest

-- what is tight at and below a table of a list is tight at and below it in a longer list
pub tight_below_grown : (n : Net) (tables more : List Table) (i : ℕ) → AreTightBelow n tables i → AreTightBelow n (tables ++ more) i
tight_below_grown n tables more i known =
    subst (AllByRecursion (IsTightAt n (tables ++ more))) (sym (same_below n tables more (suc i) i known))
    (each (IsTightAt n tables) (IsTightAt n (tables ++ more)) (tight_at_grown n tables more) (below tables i) known)

deep_list : (n : Net) (tables : List Table) (s : ℕ) (cs : List ℕ) → AllByRecursion (λ c. c < s) cs → AllByRecursion (AreTightBelow n tables) cs
    → AllByRecursion (λ c. AllByRecursion (IsTightAt n tables) (below_within s tables c)) cs
deep_list n tables s [] low known = tt
deep_list n tables s (c ∷ cs) low known =
    let earlier = each (IsTightAt n tables) (HasEarlier tables) (λ k at. earlier_from_sound n tables k (sound_from_tight n tables k at)) (below tables c) known.0 in
    let same = below_enough tables (suc c) s c (omega arith) low.0 earlier in
    (subst (AllByRecursion (IsTightAt n tables)) same known.0, deep_list n tables s cs low.1 known.1)

-- what is filled over tables that are tight at and below its children is tight at and below
pub tight_below_filled : (n : Net) (tables : List Table) (t : Table) → IsFill n tables t → AllByRecursion (AreTightBelow n tables) t.children
    → AreTightBelow n (tables ++ t ∷ []) (length tables)
tight_below_filled n tables t filled known =
    let new = tables ++ t ∷ [] in
    let s = length tables in
    let own : table_at new s ≡ t = get_or_push tables t no_table s refl in
    let there = recursion_from_All (λ c. c < s) t.children filled.children.there in
    let deep = deep_list n tables s t.children there known in
    let grown = each (λ c. AllByRecursion (IsTightAt n tables) (below_within s tables c)) (λ c. AllByRecursion (IsTightAt n new) (below_within s new c))
    (λ c at. subst (AllByRecursion (IsTightAt n new)) (sym (same_below n tables (t ∷ []) s c at))
    (each (IsTightAt n tables) (IsTightAt n new) (tight_at_grown n tables (t ∷ [])) (below_within s tables c) at)) t.children deep in (
      tight_at_filled n tables t filled,
      subst (λ (u : Table). AllByRecursion (IsTightAt n new) (flat_map (below_within s new) u.children)) (sym own)
          (all_concat (IsTightAt n new) (below_within s new) t.children grown),
    )
