-- The least sum over one time more; a column by the times that its stage's cost list allows.
use Rattle.std.proofs.Common.{ℕ, ◌≡◌, ◌+◌, ◌-◌, ◌<◌, ◌≤◌, min, max, List, length, get_or, inl, inr, ⊎_elim, sym, ap, subst, ◌∙◌, arith}
use Rattle.std.specs.Prelude.{All, ◌↔◌}
use Rattle.std.specs.List.{between}
use Rattle.std.proofs.lemmas.Bool.{cases_eq, cases_lt}
use Rattle.std.proofs.lemmas.Bool.Decides.{nat_tests}
use Rattle.std.proofs.lemmas.List.{get_or_past}
use Rattle.std.proofs.lemmas.List.Edits.{get_or-between, length-between}
use Rattle.std.proofs.lemmas.Grind.{get_or_default_zero}
use Rattle.service_model.specs.declared.limits.TheConstants.{INF}
use Rattle.service_model.specs.declared.stage.Stage.{Stage}
use Rattle.service_model.specs.declared.table.Table.{Table}
use Rattle.service_model.specs.Plans.{charge}
use Rattle.service_model.specs.Tables.{place_of, value_at}
use Rattle.service_model.proofs.CostFacts.{charge_covered}
use Rattle.table_rules.specs.Sums.{ColumnHolds, IsLeastSum}

-- the sum at k is less, or not
pub least_sum_more : (xs ys : List ℕ) (k least next : ℕ) → IsLeastSum xs ys k least → next ≡ min least (get_or xs k 0 + get_or ys k 0)
    → IsLeastSum xs ys (k + 1) next
least_sum_more xs ys k least next known is = record {
  lower = λ j low. ⊎_elim
      (λ same. let x = ap (λ i. get_or xs i 0) same in let y = ap (λ i. get_or ys i 0) same in omega (arith, x, y, is))
      (λ other. omega (arith, known.lower j (omega arith), is))
      (cases_eq j k);
  capped = omega (arith, known.capped, is);
  reached = ⊎_elim
      (λ less. inr (k, omega arith, omega (arith, is)))
      (λ keeps. ⊎_elim
      (λ top. inl (omega (arith, is, top)))
      (λ at. inr (at.0, omega (arith, at.1), omega (arith, is, at.2)))
      known.reached)
      (cases_lt (get_or xs k 0 + get_or ys k 0) least);
}

charge_early : (lead : ℕ) (cost : List ℕ) (inbound outbound : ℕ) → inbound + lead < outbound → charge lead cost inbound outbound ≡ INF
charge_early lead cost inbound outbound early = grind (arith, nat_tests)

charge_past : (lead : ℕ) (cost : List ℕ) (inbound outbound : ℕ) → outbound + length cost ≤ inbound + lead → charge lead cost inbound outbound ≡ INF
charge_past lead cost inbound outbound past =
    charge_covered lead cost inbound outbound (omega arith) ∙ get_or_past cost (inbound + lead - outbound) INF (omega arith)

charge_allowed : (lead : ℕ) (cost : List ℕ) (inbound outbound : ℕ) → outbound ≤ inbound + lead → inbound + lead < outbound + length cost
    → charge lead cost inbound outbound ≡ get_or cost (inbound + lead - outbound) 0
charge_allowed lead cost inbound outbound covered within =
    charge_covered lead cost inbound outbound covered ∙ get_or_default_zero cost (inbound + lead - outbound) INF (omega arith)

value_top : (values : List ℕ) (k : ℕ) → All (λ x. x ≤ INF) values → get_or values k 0 ≤ INF
value_top values k small = ⊎_elim
    (λ within. small k 0 within)
    (λ past. omega (arith, get_or_past values k 0 past))
    (cases_lt k (length values))

-- the table's value at two times is at most the sum of the entries of the three lists
abbrev HoldsAt : Stage → Table → List ℕ → ℕ → ℕ → ℕ → Type 0
HoldsAt s t down up outbound inbound =
    value_at t inbound outbound ≤ get_or s.cost (inbound + s.lead - outbound) 0 + get_or down inbound 0 + up

-- the same at the times from the first to the end, in the parts of a cost list and of the sums for these times
abbrev HoldsBetween : List ℕ → Stage → Table → List ℕ → ℕ → ℕ → ℕ → ℕ → Type 0
HoldsBetween cost s t down up outbound first end =
    (k : ℕ) → k < length (between first end down)
    → value_at t (first + k) outbound
    ≤ get_or (between (first + s.lead - outbound) (end + s.lead - outbound) cost) k 0 + get_or (between first end down) k 0 + up

column_by_part : (s : Stage) (t : Table) (down : List ℕ) (up outbound first end : ℕ) → All (λ x. x ≤ INF) t.values
    → first ≡ max (outbound - s.lead) t.floor → end ≡ min (outbound + length s.cost - s.lead) (length down) → first < end
    → HoldsBetween s.cost s t down up outbound first end ↔ ColumnHolds s down up t outbound
column_by_part s t down up outbound first end small from to some =
    let long = length-between down first end (omega arith) in
    let entry = λ (k : ℕ) (within : k < end - first).
    get_or-between s.cost (first + s.lead - outbound) (end + s.lead - outbound) k 0 (omega arith) in
    let same = λ (k : ℕ) (within : k < end - first). get_or-between down first end k 0 (omega arith) in
    let moved = λ (k : ℕ) (within : k < end - first).
    let at : first + s.lead - outbound + k ≡ first + k + s.lead - outbound = omega arith in
    ap (λ m. get_or s.cost m 0) at in (
      λ part inbound above below.
          let top : value_at t inbound outbound ≤ INF = value_top t.values (place_of t inbound outbound) small in
          ⊎_elim
          (λ early.
          let cost = charge_early s.lead s.cost inbound outbound (omega arith) in
          omega (arith, cost, top))
          (λ late. ⊎_elim
          (λ within.
          let low : inbound - first < end - first = omega arith in
          let here : HoldsAt s t down up outbound (first + (inbound - first)) =
          omega (arith, part (inbound - first) (omega (arith, long)), entry (inbound - first) low, same (inbound - first) low, moved (inbound - first) low) in
          let back : first + (inbound - first) ≡ inbound = omega arith in
          let there : HoldsAt s t down up outbound inbound = subst (HoldsAt s t down up outbound) back here in
          let cost = charge_allowed s.lead s.cost inbound outbound (omega arith) (omega arith) in
          omega (arith, there, cost, top))
          (λ past.
          let cost = charge_past s.lead s.cost inbound outbound (omega arith) in
          omega (arith, cost, top))
          (cases_lt inbound end))
          (cases_lt inbound first),
      λ column k within.
          let low : k < end - first = omega (arith, long) in
          let cost = charge_allowed s.lead s.cost (first + k) outbound (omega arith) (omega arith) in
          omega (arith, column (first + k) (omega arith) (omega arith), cost, entry k low, same k low, moved k low),
    )

-- the times from the first to the end, which the cost list allows, decide whether a column holds
pub column_by_allowed : (cost : List ℕ) (s : Stage) (t : Table) (down : List ℕ) (up outbound first end : ℕ) → cost ≡ s.cost
    → All (λ x. x ≤ INF) t.values → first ≡ max (outbound - s.lead) t.floor → end ≡ min (outbound + length cost - s.lead) (length down) → first < end
    → HoldsBetween cost s t down up outbound first end ↔ ColumnHolds s down up t outbound
column_by_allowed cost s t down up outbound first end is small from to some =
    subst (λ (xs : List ℕ). HoldsBetween xs s t down up outbound first end ↔ ColumnHolds s down up t outbound) (sym is)
    (column_by_part s t down up outbound first end small from (omega (arith, to, ap length is)) some)
