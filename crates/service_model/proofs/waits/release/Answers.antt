use Rattle.std.proofs.Common.{arith, ℕ, ◌-◌, List, take, ◌+◌, ap, sym, subst}
use Rattle.service_model.specs.Waits.{Released}
use Rattle.service_model.proofs.WaitFacts.{release_next, release_some}
use Rattle.service_model.proofs.waits.release.Goals as goal

pub get-requires : goal.get-requires
get-requires c = omega (arith, c.loop-customer.invariant.long, c.requires.there c.loop-customer.customer-index 0 c.loop-customer-test.true)

pub overflow_sub-left : goal.overflow_sub-left
overflow_sub-left c =
    let some = release_some c.args.customers.now c.args.waits.now c.loop-customer.waits c.args.ready.now c.loop-customer.ready c.loop-customer.customer-index
    c.loop-customer-test.true c.requires.there c.loop-customer.invariant c.requires.waits in
    omega (arith, c.get.ensures.whatever_else 0, some)

pub set-requires : goal.set-requires
set-requires c = omega (arith, c.loop-customer.invariant.long, c.requires.there c.loop-customer.customer-index 0 c.loop-customer-test.true)

pub loop-customer-preserved : goal.loop-customer-preserved
loop-customer-preserved c =
    subst (λ (xs : List ℕ). Released (take (c.loop-customer.customer-index + 1) c.args.customers.now) c.args.waits.now xs c.args.ready.now c.insert_if.new.self) (sym c.set.ensures)
    (release_next c.args.customers.now c.args.waits.now c.loop-customer.waits c.args.ready.now c.loop-customer.ready c.insert_if.new.self c.loop-customer.customer-index (c.get.result.now - 1)
    c.loop-customer-test.true c.requires.there c.loop-customer.invariant c.requires.waits (ap (λ n. n - 1) (sym (c.get.ensures.whatever_else 0))) c.in_ok-insert_if.ensures)
