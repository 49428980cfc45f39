-- A pool after one table more.
use Rattle.std.proofs.Common.{◌≡◌, ℕ, ◌+◌, ◌<◌, List, [], ◌∷◌, ◌++◌, length, sym, ap, ◌∙◌, subst, inr, ⊎_elim, arith}
use Rattle.std.proofs.lemmas.Bool.{cases_lt}
use Rattle.std.proofs.lemmas.List.{get_or_append_left, get_or_push, length_push}
use Rattle.service_model.specs.declared.table.Table.{Table}
use Rattle.service_model.specs.Net.{Net}
use Rattle.service_model.specs.Tables.{table_at, no_table}
use Rattle.service_model.specs.LocalSums.{AllTight}
use Rattle.service_model.specs.Nodes.{IsTightAt}
use Rattle.tree_tables.specs.declared.wanted.Wanted.{Wanted}
use Rattle.tree_tables.specs.Fills.{IsAsWanted, IsFill}
use Rattle.tree_tables.proofs.FillLaws.{tight_at_grown, tight_at_filled}
use Rattle.table_pool.specs.Pools.{IsAlike, IsSingle, IsPool, HasWanted, IsFoundOrFilled}

-- the table that comes to the end
last_at : (tables : List Table) (t : Table) (i : ℕ) → length tables ≡ i → table_at (tables ++ t ∷ []) i ≡ t
last_at tables t i is = get_or_push tables t no_table i is

-- each table is tight, where it stands and over the tables before it
tight_each : (n : Net) (tables : List Table) → ((i : ℕ) → i < length tables → IsTightAt n tables i) → AllTight n tables
tight_each n tables each = record { shaped = λ i within. (each i within).shaped; tight = λ i within. (each i within).tight }

push_tight : (n : Net) (tables : List Table) (t : Table) → AllTight n tables → IsFill n tables t → AllTight n (tables ++ t ∷ [])
push_tight n tables t known fill =
    tight_each n (tables ++ t ∷ [])
    (λ i within. ⊎_elim
    (λ old. tight_at_grown n tables (t ∷ []) i (record { there = old; shaped = known.shaped i old; tight = known.tight i old }))
    (λ last. subst (IsTightAt n (tables ++ t ∷ [])) (let here : length tables ≡ i = omega (arith, last, within, length_push tables t) in here) (tight_at_filled n tables t fill))
    (cases_lt i (length tables)))

-- tables that are as wanted are alike

alike_back : (s t : Table) → IsAlike s t → IsAlike t s
alike_back s t alike = record {
  stage = sym alike.stage;
  kind = sym alike.kind;
  least = sym alike.least;
  most = sym alike.most;
  floor = sym alike.floor;
  children = sym alike.children;
}

wanted_alike : (w : Wanted) (s t : Table) → IsAsWanted w t → IsAlike s t → IsAsWanted w s
wanted_alike w s t wanted alike = record {
  stage = alike.stage ∙ wanted.stage;
  kind = alike.kind ∙ wanted.kind;
  least = alike.least ∙ wanted.least;
  most = alike.most ∙ wanted.most;
  floor = alike.floor ∙ wanted.floor;
  children = alike.children ∙ wanted.children;
}

push_single : (tables : List Table) (w : Wanted) (t : Table) → IsSingle tables → IsAsWanted w t → ¬ HasWanted tables w → IsSingle (tables ++ t ∷ [])
push_single tables w t single wanted absent i k within within' alike =
    let long = length_push tables t in
    let old = λ (m : ℕ) (low : m < length tables). get_or_append_left tables (t ∷ []) no_table m low in
    let never = λ (m : ℕ) (low : m < length tables) (same : IsAlike (table_at (tables ++ t ∷ []) m) t).
    absent (m, low, wanted_alike w (table_at tables m) t wanted (subst (λ (s : Table). IsAlike s t) (old m low) same)) in
    ⊎_elim
    (λ low. ⊎_elim
    (λ low'. single i k low low' (subst (λ (s : Table). IsAlike s (table_at tables k)) (old i low) (subst (IsAlike (table_at (tables ++ t ∷ []) i)) (old k low') alike)))
    (λ last. absurd (never i low (subst (IsAlike (table_at (tables ++ t ∷ []) i)) (last_at tables t k (omega (arith, long, last, within'))) alike)))
    (cases_lt k (length tables)))
    (λ last. ⊎_elim
    (λ low'. absurd (never k low' (alike_back t (table_at (tables ++ t ∷ []) k) (subst (λ (s : Table). IsAlike s (table_at (tables ++ t ∷ []) k)) (last_at tables t i (omega (arith, long, last, within))) alike))))
    (λ last'. omega (arith, long, last, last', within, within'))
    (cases_lt k (length tables)))
    (cases_lt i (length tables))

-- what find_or_fill gives, where the pool did not hold the wanted table
pub was_added : (n : Net) (tables new : List Table) (t : Table) (w : Wanted) (count count' id : ℕ) → IsPool n tables → ¬ HasWanted tables w
    → IsFill n tables t → IsAsWanted w t → new ≡ tables ++ t ∷ [] → count' ≡ count + 1 → id ≡ length tables
    → IsFoundOrFilled n tables new w count count' id
was_added n tables new t w count count' id pool absent fill wanted is step last =
    let at : table_at new id ≡ t = ap (λ (ts : List Table). table_at ts id) is ∙ last_at tables t id (sym last) in
    record {
      pool = subst (IsPool n) (sym is) (record { tight = push_tight n tables t pool.tight fill; single = push_single tables w t pool.single wanted absent });
      there = omega (arith, last, ap length is, length_push tables t);
      wanted = subst (IsAsWanted w) (sym at) wanted;
      change = inr (record { absent = absent; table = t; more = is; step = step; last = last });
    }
