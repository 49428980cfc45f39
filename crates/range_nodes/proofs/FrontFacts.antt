-- Tables that are tight together, seen from those in front.
use Rattle.std.proofs.Common.{◌≡◌, ℕ, ◌<◌, ◌≤◌, List, ◌++◌, length, subst, arith, length-append}
use Rattle.std.specs.Prelude.{All}
use Rattle.std.specs.List.{AllByRecursion}
use Rattle.std.proofs.lemmas.List.{get_or_append_left}
use Rattle.std.proofs.lemmas.List.Elements.{recursion_from_All}
use Rattle.service_model.specs.declared.table.Table.{Table}
use Rattle.service_model.specs.Net.{Net}
use Rattle.service_model.specs.Tables.{table_at, no_table, IsShaped}
use Rattle.service_model.specs.LocalSums.{Local, Sound, AllTight}
use Rattle.gsm_laws.proofs.ElementFacts.{each}
use Rattle.cert_laws.proofs.GrowFacts.{Agree, local_agree, children_agree}

-- the tables in front are the same without those behind
pub agree_front : (front rest : List Table) (ks : List ℕ) → AllByRecursion (λ k. k < length front) ks → Agree (front ++ rest) front ks
agree_front front rest ks there =
    each (λ k. k < length front) (λ k. table_at (front ++ rest) k ≡ table_at front k) (λ k within. get_or_append_left front rest no_table k within) ks there

children_front : (front rest : List Table) (i : ℕ) (t : Table) → i ≤ length front → All (λ c. c < i) t.children → Agree (front ++ rest) front t.children
children_front front rest i t low earlier =
    agree_front front rest t.children
    (recursion_from_All (λ c. c < length front) t.children (λ k d within. (let before = earlier k d within in omega (arith, before, low))))

pub shaped_front : (n : Net) (front rest : List Table) (i : ℕ) (t : Table) → i ≤ length front → IsShaped n (front ++ rest) i t → IsShaped n front i t
shaped_front n front rest i t low shaped = record {
  sized = shaped.sized;
  earlier = shaped.earlier;
  children = children_agree n (front ++ rest) front t.stage t.children (children_front front rest i t low shaped.earlier) shaped.children;
}

pub local_front : (n : Net) (front rest : List Table) (i : ℕ) (t : Table) → i ≤ length front → IsShaped n (front ++ rest) i t → Local n (front ++ rest) t
    → Local n front t
local_front n front rest i t low shaped local =
    local_agree n (front ++ rest) front t (children_front front rest i t low shaped.earlier) local

-- so they are sound without those behind
pub sound_front : (n : Net) (front rest : List Table) → AllTight n (front ++ rest) → Sound n front
sound_front n front rest known =
    let long = length-append front rest in
    let same = λ (i : ℕ) (within : i < length front). get_or_append_left front rest no_table i within in
    let shaped = λ (i : ℕ) (within : i < length front).
    subst (IsShaped n (front ++ rest) i) (same i within) (known.shaped i (omega (arith, within, long))) in
    record {
      shaped = λ i within. shaped_front n front rest i (table_at front i) (omega (arith, within)) (shaped i within);
      lower = λ i within.
          local_front n front rest i (table_at front i) (omega (arith, within)) (shaped i within)
          (subst (Local n (front ++ rest)) (same i within) (known.tight i (omega (arith, within, long))).lower);
    }
