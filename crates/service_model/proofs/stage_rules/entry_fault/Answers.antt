use Rattle.std.proofs.Common.{◌≡◌, ◌+◌, ◌<◌, Some, None, [], length, sym, arith, rules, ◌∙◌}
use Rattle.service_model.specs.declared.limits.TheConstants.{INF}
use Rattle.service_model.specs.declared.faults.TheConstants.{COST_ENTRY}
use Rattle.service_model.specs.Net.{net_of}
use Rattle.service_model.specs.Faults.{tops_below, fails_if}
use Rattle.service_model.proofs.TopFacts.{top_below_INF}
use Rattle.service_model.proofs.EntryFacts.{entry_test, tops_more, tops_small, entry_rule_is, none_more, first_entry_fault, no_entry_fault}
use Rattle.service_model.proofs.stage_rules.entry_fault.Goals as goal

pub overflow_add-tops : goal.overflow_add-tops
overflow_add-tops c =
    let small : c.top_of-tops.result < INF = rw c.top_of-tops.ensures (top_below_INF c.as_slice-cost.result.now) in
    omega (arith, small, c.stages.invariant.small)

pub returns-in-Some : goal.returns-in-Some
returns-in-Some c =
    let stages = c.args.stages.now in
    let j = c.stages.j in
    let cost = c.as_slice-cost.result.now in
    let tops = c.stages.tops + c.top_of-tops.result in
    let within : j < length stages = c.stages-test.true in
    let sum : tops ≡ tops_below (net_of 0 stages []) (j + 1) =
    rw c.top_of-tops.ensures (tops_more stages j c.stages.tops _ cost c.as_slice-cost.ensures within c.stages.invariant.tops) in
    let found : fails_if COST_ENTRY (entry_test cost tops) j ≡ Some c.in-Some.fault = sym c.entry_fault_at.ensures ∙ c.in-Some.is in
    record {
      whatever_else = first_entry_fault stages j c.in-Some.fault c.stages.invariant.none within
          (λ horizon arcs. sym (entry_rule_is stages j tops _ cost c.as_slice-cost.ensures within sum horizon arcs) ∙ found);
    }

pub stages-preserved : goal.stages-preserved
stages-preserved c =
    let stages = c.args.stages.now in
    let j = c.stages.j in
    let cost = c.as_slice-cost.result.now in
    let tops = c.stages.tops + c.top_of-tops.result in
    let within : j < length stages = c.stages-test.true in
    let sum : tops ≡ tops_below (net_of 0 stages []) (j + 1) =
    rw c.top_of-tops.ensures (tops_more stages j c.stages.tops _ cost c.as_slice-cost.ensures within c.stages.invariant.tops) in
    let holds : fails_if COST_ENTRY (entry_test cost tops) j ≡ None = sym c.entry_fault_at.ensures ∙ c.in_default.is in
    record {
      tops = sum;
      small = tops_small cost tops j holds;
      none = none_more stages j c.stages.invariant.none
          (λ horizon arcs. sym (entry_rule_is stages j tops _ cost c.as_slice-cost.ensures within sum horizon arcs) ∙ holds);
    }

pub returns : goal.returns
returns c = record { whatever_else = no_entry_fault c.args.stages.now c.stages.j c.stages.invariant.none (search rules) }
