-- The tables of a search keep the rules on tables.
use Rattle.std.proofs.Common.{◌≡◌, ℕ, suc, ◌<◌, ◌≤◌, List, ◌∷◌, ◌++◌, length, take, drop, append_assoc, sym, ap, ◌∙◌, subst, ⊎_elim, arith, length-append}
use Rattle.std.specs.Prelude.{All, ◌==◌}
use Rattle.std.proofs.lemmas.List.{get_or_default, take-append-drop}
use Rattle.std.proofs.Math.Seq.{get_or-append_seam, drop-cons}
use Rattle.std.proofs.lemmas.List.Elements.{All-nil}
use Rattle.service_model.specs.declared.limits.TheConstants.{INF}
use Rattle.service_model.specs.declared.cert_rules.TheConstants.{TABLE, CHILD, CHILD_ARC, LOCAL}
use Rattle.service_model.specs.declared.table.Table.{Table}
use Rattle.service_model.specs.Net.{Net}
use Rattle.service_model.specs.Networks.{IsNetwork}
use Rattle.service_model.specs.Tables.{table_at, no_table, IsShaped}
use Rattle.service_model.specs.LocalSums.{Reached, Tight}
use Rattle.service_model.specs.CertNumbers.{TableInRange}
use Rattle.service_model.specs.CertRules.{most_floor, IsTable, TableRule}
use Rattle.cert_laws.proofs.TablesKeptFacts.{either}
use Rattle.range_nodes.specs.Sizes.{IsShortTable}
use Rattle.range_nodes.specs.Nodes.{AreSearched}
use Rattle.range_nodes.specs.Laws.{NoTablesLaw, NewTablesLaw}
use Rattle.range_nodes.proofs.FrontFacts.{shaped_front, local_front}

pub no_tables : NoTablesLaw
no_tables n = record {
  pool = record {
    tight = record { shaped = λ i within. absurd (omega arith); tight = λ i within. absurd (omega arith) };
    single = λ i k within within' alike. absurd (omega arith);
  };
  floors = All-nil (λ (t : Table). t.floor ≤ most_floor n);
  short = All-nil (IsShortTable n);
  numbered = omega arith;
}

-- no value is above INF
values_low : (n : Net) (tables : List Table) (t : Table) → Reached n tables t → All (λ x. x ≤ INF) t.values
values_low n tables t reached k d within = ⊎_elim
    (λ top. omega (arith, top, get_or_default t.values k d 0 within))
    (λ at. omega (arith, at.4, get_or_default t.values k d 0 within))
    (reached k within)

-- the next table
next_table : (n : Net) (front : List Table) (t : Table) (rest : List Table) → IsNetwork n → AreSearched n (front ++ t ∷ rest)
    → TableInRange t × ((rule : ℕ) → TableRule n front t rule)
next_table n front t rest valid searched =
    let all = front ++ t ∷ rest in
    let i = length front in
    let within : i < length all = omega (arith, length-append front (t ∷ rest)) in
    let at : table_at all i ≡ t = get_or-append_seam front t rest no_table in
    let shaped : IsShaped n all i t = subst (IsShaped n all i) at (searched.pool.tight.shaped i within) in
    let tight : Tight n all t = subst (Tight n all) at (searched.pool.tight.tight i within) in
    let floor : t.floor ≤ most_floor n = subst (λ (u : Table). u.floor ≤ most_floor n) at (searched.floors i no_table within) in
    let few = searched.numbered in
    let table : IsTable n t = record { sized = shaped.sized; floor = floor } in (
      record {
        stage = omega (arith, shaped.sized.stage, valid.few_stages);
        least = omega (arith, shaped.sized.interval, shaped.sized.within, valid.horizon);
        most = omega (arith, shaped.sized.within, valid.horizon);
        floor = omega (arith, shaped.sized.floor, valid.horizon);
        children = λ k d inside. (let earlier = shaped.earlier k d inside in omega (arith, earlier, within, few));
        values = values_low n all t tight.reached;
      },
      λ rule.
          either (rule == TABLE) _ _ table (
          either (rule == CHILD) _ _ shaped.earlier (
          either (rule == CHILD_ARC) _ _ (shaped_front n front (t ∷ rest) i t (omega arith) shaped).children (
          either (rule == LOCAL) _ _ (local_front n front (t ∷ rest) i t (omega arith) shaped tight.lower) tt))),
    )

pub new_tables : NewTablesLaw
new_tables n old more valid searched i within =
    let t = table_at more i in
    let behind = drop (suc i) more in
    let split : old ++ more ≡ (old ++ take i more) ++ t ∷ behind =
    ap (λ (ts : List Table). old ++ ts) (sym (take-append-drop i more))
    ∙ ap (λ (ts : List Table). old ++ (take i more ++ ts)) (drop-cons more i no_table within)
    ∙ sym (append_assoc old (take i more) (t ∷ behind)) in
    next_table n (old ++ take i more) t behind valid (subst (AreSearched n) split searched)
