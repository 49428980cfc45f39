use Rattle.std.proofs.Common.{ℕ, ◌≡◌, ◌+◌, nat_lt, true, false, length, get_or, set, List, sym, ap, ◌∙◌, subst, arith}
use Rattle.std.specs.List.{list_any}
use Rattle.stage_file.specs.declared.limits.TheConstants.{MAX_EXCESS}
use Rattle.stage_file.specs.declared.rules.TheConstants.{TOO_LARGE}
use Rattle.stage_file.specs.declared.fault.FileKind.TheVariants.{Stages}
use Rattle.stage_file.specs.declared.stages.StageRow.{StageRow}
use Rattle.stage_file.specs.Faults.{fault_of}
use Rattle.demand_tables.specs.Demand.{no_row, row_at, arcs_from, IsExcess}
use Rattle.demand_tables.specs.Lookups.{AreAnswered}
use Rattle.demand_tables.proofs.CaseFacts.{SoFar, answered, next, stopped, done, all_within}
use Rattle.demand_tables.proofs.demand.excess_lists.Goals as goal

pub excess_of-requires-clause-answered : goal.excess_of-requires-clause-answered
excess_of-requires-clause-answered c =
    let raw = c.args.lookups.now.raw.now in
    subst (λ i. AreAnswered c.order.lists (arcs_from c.args.lookups.now.raw.now.arcs i)) (c.get.ensures.whatever_else 0)
    (answered raw c.args.order.now c.requires.net c.requires.order c.order.k c.order.lists (omega arith) c.order.invariant)

pub returns-then-has_large-clause-value : goal.returns-then-has_large-clause-value
returns-then-has_large-clause-value c =
    let raw = c.args.lookups.now.raw.now in
    let at = c.get.ensures.whatever_else 0 in
    let is : IsExcess c.args.lookups.now.raw.now c.order.lists (get_or c.args.order.now c.order.k 0) c.in_ok-excess.excess =
    subst (λ i. IsExcess c.args.lookups.now.raw.now c.order.lists i c.in_ok-excess.excess) (sym at) c.in_ok-excess.ensures in
    let large : list_any (nat_lt MAX_EXCESS) c.in_ok-excess.excess ≡ true = ap (list_any (nat_lt MAX_EXCESS)) (sym c.as_slice.ensures) ∙ sym c.has_large.ensures ∙ c.if-has_large.true in
    let row = ap (λ i. (row_at c.args.lookups.now.raw.now i).row) at ∙ ap (λ (s : StageRow). s.row) (c.get-then-has_large.ensures.whatever_else no_row) in
    stopped raw c.args.order.now c.requires.net c.requires.order c.order.k c.order.lists c.in_ok-excess.excess c.bound_fault.result c.requires.bounds (omega arith) c.order.invariant is large
    (c.bound_fault.ensures ∙ ap (λ n. fault_of Stages n TOO_LARGE 6) (sym row))

pub order-preserved : goal.order-preserved
order-preserved c =
    let raw = c.args.lookups.now.raw.now in
    let at = c.get.ensures.whatever_else 0 in
    let is : IsExcess c.args.lookups.now.raw.now c.order.lists (get_or c.args.order.now c.order.k 0) c.in_ok-excess.excess =
    subst (λ i. IsExcess c.args.lookups.now.raw.now c.order.lists i c.in_ok-excess.excess) (sym at) c.in_ok-excess.ensures in
    let none : list_any (nat_lt MAX_EXCESS) c.in_ok-excess.excess ≡ false = ap (list_any (nat_lt MAX_EXCESS)) (sym c.as_slice.ensures) ∙ sym c.has_large.ensures ∙ c.if-has_large.false in
    let lists = ap (λ i. set c.order.lists i c.in_ok-excess.excess) at ∙ sym c.set.ensures in
    subst (λ (xs : List (List ℕ)). SoFar c.args.lookups.now.raw.now c.args.order.now (c.order.k + 1) xs) lists
    (next raw c.args.order.now c.requires.net c.requires.order c.order.k c.order.lists c.in_ok-excess.excess (omega arith) c.order.invariant is none)

pub returns-clause-value : goal.returns-clause-value
returns-clause-value c =
    let raw = c.args.lookups.now.raw.now in
    let all : c.order.k ≡ length c.args.order.now = omega arith in
    done raw c.args.order.now c.requires.net c.requires.order c.order.lists c.requires.bounds (subst (λ k. SoFar c.args.lookups.now.raw.now c.args.order.now k c.order.lists) all c.order.invariant)

pub returns-clause-within : goal.returns-clause-within
returns-clause-within c =
    let raw = c.args.lookups.now.raw.now in
    let all : c.order.k ≡ length c.args.order.now = omega arith in
    all_within raw c.args.order.now c.requires.net c.requires.order c.order.lists (subst (λ k. SoFar c.args.lookups.now.raw.now c.args.order.now k c.order.lists) all c.order.invariant)
