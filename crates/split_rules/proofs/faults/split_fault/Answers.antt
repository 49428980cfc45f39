use Rattle.std.proofs.Common.{refl}
use Rattle.std.proofs.lemmas.Bool.{both_ways}
use Rattle.split_rules.proofs.SplitFacts.{node_fails, late_fails, no_plan_fails, plan_fails, arc_fails, none_fails}
use Rattle.split_rules.proofs.faults.split_fault.Goals as goal

pub returns-then-split-next : goal.returns-then-split-next
returns-then-split-next c = record {
  first = λ h tables_are next bound node range is_found.
      node_fails c.args.network.now h c.args.split c.args.tables.now c.args.next.leaf c.args.next.node.now c.args.next.range.now c.args.found.now
      (record { tables_are = tables_are; next = next; bound = bound; node = node; range = range; is_found = is_found })
      c.if-split-next.true;
}

pub returns-then-not-is_open : goal.returns-then-not-is_open
returns-then-not-is_open c = record {
  first = λ h tables_are next bound node range is_found.
      late_fails c.args.network.now h c.args.split c.args.tables.now c.args.next.leaf c.args.next.node.now c.args.next.range.now c.args.found.now
      (record { tables_are = tables_are; next = next; bound = bound; node = node; range = range; is_found = is_found })
      c.if-split-next.false (λ early. (let told = c.if-not-is_open.ensures.1 early in absurd cc));
}

pub returns-in_default : goal.returns-in_default
returns-in_default c = record {
  first = λ h tables_are next bound node range is_found.
      no_plan_fails c.args.network.now h c.args.split c.args.tables.now c.args.next.leaf c.args.next.node.now c.args.next.range.now c.args.found.now
      (record { tables_are = tables_are; next = next; bound = bound; node = node; range = range; is_found = is_found })
      c.if-split-next.false (c.if-not-is_open.ensures.0 refl) c.in_default.is;
}

pub returns-then-not-branch : goal.returns-then-not-branch
returns-then-not-branch c = record {
  first = λ h tables_are next bound node range is_found.
      plan_fails c.args.network.now h c.args.split c.args.tables.now c.args.next.leaf c.args.next.node.now c.args.next.range.now c.args.found.now
      (record { tables_are = tables_are; next = next; bound = bound; node = node; range = range; is_found = is_found })
      c.if-split-next.false (c.if-not-is_open.ensures.0 refl) c.in-Some.plan c.in-Some.is
      (λ is. both_ways _ c.if-not-branch.true (c.in_ok-is_relaxed.ensures.1 is));
}

pub returns-then-not-breaks_arc : goal.returns-then-not-breaks_arc
returns-then-not-breaks_arc c = record {
  first = λ h tables_are next bound node range is_found.
      arc_fails c.args.network.now h c.args.split c.args.tables.now c.args.next.leaf c.args.next.node.now c.args.next.range.now c.args.found.now
      (record { tables_are = tables_are; next = next; bound = bound; node = node; range = range; is_found = is_found })
      c.if-split-next.false (c.if-not-is_open.ensures.0 refl) c.in-Some.plan c.in-Some.is (c.in_ok-is_relaxed.ensures.0 c.if-not-branch.false)
      (λ breaks. (let told = c.if-not-breaks_arc.ensures.1 breaks in absurd cc));
}

pub returns : goal.returns
returns c = record {
  first = λ h tables_are next bound node range is_found.
      none_fails c.args.network.now h c.args.split c.args.tables.now c.args.next.leaf c.args.next.node.now c.args.next.range.now c.args.found.now
      (record { tables_are = tables_are; next = next; bound = bound; node = node; range = range; is_found = is_found })
      c.if-split-next.false (c.if-not-is_open.ensures.0 refl) c.in-Some.plan c.in-Some.is (c.in_ok-is_relaxed.ensures.0 c.if-not-branch.false)
      (c.if-not-breaks_arc.ensures.0 refl);
}
