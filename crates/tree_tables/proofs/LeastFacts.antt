-- Least values over intervals, as they grow and move.
use Rattle.std.proofs.Common.{ℕ, ◌≡◌, ◌+◌, ◌-◌, ◌<◌, ◌≤◌, min, List, length, get_or, sym, ap, ◌∙◌, subst, inl, inr, ⊎_elim, arith}
use Rattle.std.specs.Prelude.{reverse}
use Rattle.std.proofs.lemmas.Bool.{cases_eq, cases_lt}
use Rattle.std.proofs.lemmas.Bool.Decides.{nat_tests}
use Rattle.std.proofs.lemmas.List.{get_or_past, get_or-reverse}
use Rattle.std.proofs.lemmas.Grind.{get_or_default_zero}
use Rattle.service_model.specs.declared.limits.TheConstants.{INF}
use Rattle.service_model.specs.Plans.{charge, entry_of}
use Rattle.service_model.specs.LocalSums.{capped}
use Rattle.service_model.proofs.CostFacts.{charge_covered}
use Rattle.tree_tables.specs.Leasts.{IsLeast, IsLeastPair}
use Rattle.tree_tables.specs.Sums.{Parts, local_at}

-- the cost at a time that has an entry
pub charge_at : (lead : ℕ) (cost : List ℕ) (inbound outbound : ℕ) → outbound ≤ inbound + lead → inbound + lead < outbound + length cost
    → charge lead cost inbound outbound ≡ get_or cost (inbound + lead - outbound) 0
charge_at lead cost inbound outbound covered within =
    charge_covered lead cost inbound outbound covered ∙ get_or_default_zero cost (inbound + lead - outbound) INF (omega arith)

charge_early : (lead : ℕ) (cost : List ℕ) (inbound outbound : ℕ) → inbound + lead < outbound → charge lead cost inbound outbound ≡ INF
charge_early lead cost inbound outbound early = grind (arith, nat_tests)

charge_past : (lead : ℕ) (cost : List ℕ) (inbound outbound : ℕ) → outbound + length cost ≤ inbound + lead → charge lead cost inbound outbound ≡ INF
charge_past lead cost inbound outbound past =
    charge_covered lead cost inbound outbound (omega arith) ∙ get_or_past cost (inbound + lead - outbound) INF (omega arith)

-- the least over one number more
pub least_more : (f : ℕ → ℕ) (from to least x : ℕ) → IsLeast f from to least → from ≤ to → x ≡ f to → IsLeast f from (to + 1) (min least x)
least_more f from to least x known low is = record {
  lower = λ k above below. ⊎_elim
      (λ same. let e : f k ≡ f to = ap f same in omega (arith, e, is))
      (λ other. omega (arith, known.lower k above (omega arith)))
      (cases_eq k to);
  capped = omega (arith, known.capped);
  reached = ⊎_elim
      (λ less. inr (to, low, omega arith, omega (arith, less, is)))
      (λ more. ⊎_elim
      (λ top. inl (omega (arith, top, more)))
      (λ at. inr (at.0, at.1, omega (arith, at.2), omega (arith, at.3, more)))
      known.reached)
      (cases_lt x least);
}

-- numbers that give INF or more may be left out at both ends
pub least_wider : (f : ℕ → ℕ) (from first end to least : ℕ) → IsLeast f first end least → from ≤ first → end ≤ to
    → ((k : ℕ) → from ≤ k → k < first → INF ≤ f k) → ((k : ℕ) → end ≤ k → k < to → INF ≤ f k) → IsLeast f from to least
least_wider f from first end to least known low high before after = record {
  lower = λ k above below. ⊎_elim
      (λ early. omega (arith, known.capped, before k above early))
      (λ late. ⊎_elim (λ inside. known.lower k late inside) (λ past. omega (arith, known.capped, after k past below)) (cases_lt k end))
      (cases_lt k first);
  capped = known.capped;
  reached = ⊎_elim (λ top. inl top) (λ at. inr (at.0, omega (arith, at.1), omega (arith, at.2), at.3)) known.reached;
}

-- times without an entry in the cost list may be left out
pub least_entries : (sums cost : List ℕ) (early late from first end to least : ℕ)
    → IsLeast (λ k. charge early cost k late + get_or sums k 0) first end least → from ≤ first → end ≤ to
    → ((k : ℕ) → from ≤ k → k < first → k + early < late) → ((k : ℕ) → end ≤ k → k < to → late + length cost ≤ k + early)
    → IsLeast (λ k. charge early cost k late + get_or sums k 0) from to least
least_entries sums cost early late from first end to least known low high before after =
    least_wider (λ k. charge early cost k late + get_or sums k 0) from first end to least known low high
    (λ k above below. let e = charge_early early cost k late (before k above below) in omega (arith, e))
    (λ k above below. let e = charge_past early cost k late (after k above below) in omega (arith, e))

-- the same number more at each, and no more than INF
pub least_capped : (f g : ℕ → ℕ) (from to least more : ℕ) → ((k : ℕ) → g k ≡ capped (f k + more)) → IsLeast f from to least
    → IsLeast g from to (capped (least + more))
least_capped f g from to least more same known = record {
  lower = λ k above below. omega (arith, same k, known.lower k above below);
  capped = omega arith;
  reached = ⊎_elim (λ top. inl (omega (arith, top))) (λ at. inr (at.0, at.1, at.2, omega (arith, at.3, same at.0))) known.reached;
}

-- the least over one outbound time more
pub pair_more : (f : ℕ → ℕ → ℕ) (from to from' to' lowest row : ℕ) → IsLeastPair f from to from' to' lowest → from' ≤ to'
    → IsLeast (λ i. f i to') from to row → IsLeastPair f from to from' (to' + 1) (min lowest row)
pair_more f from to from' to' lowest row known low here = record {
  lower = λ i o above below above' below'. ⊎_elim
      (λ same. let e : f i o ≡ f i to' = ap (f i) same in omega (arith, e, here.lower i above below))
      (λ other. omega (arith, known.lower i o above below above' (omega arith)))
      (cases_eq o to');
  capped = omega (arith, known.capped);
  reached = ⊎_elim
      (λ less. ⊎_elim
      (λ top. absurd (omega (arith, top, less, known.capped)))
      (λ at. inr (at.0, to', at.1, at.2, low, omega arith, omega (arith, at.3, less)))
      here.reached)
      (λ more. ⊎_elim
      (λ top. inl (omega (arith, top, more, here.capped)))
      (λ at. inr (at.0, at.1, at.2, at.3, at.4, omega (arith, at.5), omega (arith, at.6, more)))
      known.reached)
      (cases_lt row lowest);
}

-- the cost at a time that is counted from the other end
charge_turned : (lead : ℕ) (cost : List ℕ) (inbound last k : ℕ) → k ≤ last
    → charge (inbound + lead) cost k last ≡ charge lead cost inbound (last - k)
charge_turned lead cost inbound last k within = ⊎_elim
    (λ early. charge_early (inbound + lead) cost k last early ∙ sym (charge_early lead cost inbound (last - k) (omega arith)))
    (λ covered.
    let same : k + (inbound + lead) - last ≡ inbound + lead - (last - k) = omega arith in
    charge_covered (inbound + lead) cost k last covered ∙ ap (entry_of cost) same ∙ sym (charge_covered lead cost inbound (last - k) (omega arith)))
    (cases_lt (k + (inbound + lead)) last)

-- a sum with the turned list is one with the list, counted from the other end
sum_turned : (lead : ℕ) (cost up : List ℕ) (inbound k : ℕ) → k < length up
    → charge (inbound + lead) cost k (length up - 1) + get_or (reverse up) k 0
    ≡ charge lead cost inbound (length up - 1 - k) + get_or up (length up - 1 - k) 0
sum_turned lead cost up inbound k within =
    let first = charge_turned lead cost inbound (length up - 1) k (omega arith) in
    let second = get_or-reverse up k 0 within in
    omega (arith, first, second)

-- a least over the turned list is one over the list
pub least_turned : (lead : ℕ) (cost up : List ℕ) (inbound from to least : ℕ) → 0 < length up → from ≤ to → to ≤ length up
    → IsLeast (λ k. charge (inbound + lead) cost k (length up - 1) + get_or (reverse up) k 0) (length up - to) (length up - from) least
    → IsLeast (λ o. charge lead cost inbound o + get_or up o 0) from to least
least_turned lead cost up inbound from to least some low high known = record {
  lower = λ o above below.
      let k = length up - 1 - o in
      let back : length up - 1 - k ≡ o = omega arith in
      let same : charge lead cost inbound (length up - 1 - k) + get_or up (length up - 1 - k) 0 ≡ charge lead cost inbound o + get_or up o 0 =
      ap (λ m. charge lead cost inbound m + get_or up m 0) back in
      omega (arith, known.lower k (omega arith) (omega arith), sum_turned lead cost up inbound k (omega arith), same);
  capped = known.capped;
  reached = ⊎_elim
      (λ top. inl top)
      (λ at. inr (
        length up - 1 - at.0,
        omega (arith, at.1, at.2),
        omega (arith, at.1, at.2),
        omega (arith, at.3, sum_turned lead cost up inbound at.0 (omega (arith, at.2))),
      ))
      known.reached;
}

-- the least local sum at an inbound time, from the least over the turned list
pub least_local : (p : Parts) (turned cost : List ℕ) (ready inbound from to least : ℕ) → turned ≡ reverse p.up → cost ≡ p.cost → ready ≡ inbound + p.lead
    → 0 < length p.up → from ≤ to → to ≤ length p.up
    → IsLeast (λ k. charge ready cost k (length p.up - 1) + get_or turned k 0) (length p.up - to) (length p.up - from) least
    → IsLeast (λ o. local_at p inbound o) from to (capped (least + get_or p.down inbound 0))
least_local p turned cost ready inbound from to least turns costs readies some low high known =
    let f = λ (ready : ℕ) (cost turned : List ℕ) (k : ℕ). charge ready cost k (length p.up - 1) + get_or turned k 0 in
    let one = subst (λ xs. IsLeast (f ready cost xs) (length p.up - to) (length p.up - from) least) turns known in
    let two = subst (λ xs. IsLeast (f ready xs (reverse p.up)) (length p.up - to) (length p.up - from) least) costs one in
    let three = subst (λ m. IsLeast (f m p.cost (reverse p.up)) (length p.up - to) (length p.up - from) least) readies two in
    least_capped (λ o. charge p.lead p.cost inbound o + get_or p.up o 0) (λ o. local_at p inbound o) from to least (get_or p.down inbound 0)
    (λ o. omega arith) (least_turned p.lead p.cost p.up inbound from to least some low high three)
