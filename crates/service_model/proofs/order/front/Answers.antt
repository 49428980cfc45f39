use Rattle.std.proofs.Common.{arith, ◌<◌, ◌≤◌, slice_index, ◌==◌, length, ℕ, List, ◌∙◌, ap, subst, sym}
use Rattle.std.specs.Prelude.{All, count_by}
use Rattle.std.proofs.lemmas.List.{length_push}
use Rattle.service_model.specs.Waits.{Released}
use Rattle.service_model.specs.Customers.{customers_in}
use Rattle.service_model.proofs.CustomerFacts.{customers_there}
use Rattle.service_model.proofs.FrontFacts.{FrontSoFar, front_begun, front_done, front_more, few_ready, first_is, customers_few}
use Rattle.service_model.proofs.order.front.Goals as goal

pub turns-init : goal.turns-init
turns-init c =
    let links = c.args.links.now in
    subst (λ (o : List ℕ). FrontSoFar c.args.links.now.stages c.args.links.now.arcs.now o c.in_ok-ready.ready c.in_ok-waits.waits) (sym c.new-order.ensures)
    (front_begun links.stages links.arcs.now c.in_ok-ready.ready c.in_ok-waits.waits c.in_ok-waits.ensures.long c.in_ok-waits.ensures.counts c.in_ok-ready.ensures.ready c.in_ok-ready.ensures.all)

pub returns : goal.returns
returns c = front_done c.args.links.now.stages c.args.links.now.arcs.now c.turns.order c.turns.ready c.turns.waits c.turns.invariant c.in_default.ensures.none

pub customers_of-requires : goal.customers_of-requires
customers_of-requires c =
    (first_is c.args.links.now.stages c.args.links.now.arcs.now c.turns.order c.take_lowest.new.self c.turns.ready c.turns.waits c.in-Some.stage c.turns.invariant c.in-Some.ensures.some).stage

pub release-requires-clause-there : goal.release-requires-clause-there
release-requires-clause-there c =
    let links = c.args.links.now in
    subst (λ (xs : List ℕ). All (λ x. x < length c.turns.waits) xs) (sym c.customers_of.ensures)
    (subst (λ n. All (λ x. x < n) (customers_in c.args.links.now.arcs.now c.in-Some.stage)) (sym c.turns.invariant.waits_long)
    (customers_there links.stages links.arcs.now c.in-Some.stage links.ends))

pub release-requires-clause-waits : goal.release-requires-clause-waits
release-requires-clause-waits c =
    let links = c.args.links.now in
    subst (λ (xs : List ℕ). (j : ℕ) → count_by (λ x. x == j) xs ≤ slice_index c.turns.waits j) (sym c.customers_of.ensures)
    (customers_few links.stages links.arcs.now c.turns.order c.take_lowest.new.self c.turns.ready c.turns.waits c.in-Some.stage links.ends c.turns.invariant c.in-Some.ensures.some)

pub turns-preserved : goal.turns-preserved
turns-preserved c =
    let links = c.args.links.now in
    subst (λ (o : List ℕ). FrontSoFar c.args.links.now.stages c.args.links.now.arcs.now o c.release.new.ready c.release.new.waits) (sym c.in_ok-push.ensures.ok)
    (front_more links.stages links.arcs.now c.turns.order c.take_lowest.new.self c.turns.ready c.release.new.ready c.turns.waits c.release.new.waits c.in-Some.stage
    links.ends c.turns.invariant c.in-Some.ensures.some c.in-Some.ensures.lowest
    (subst (λ (xs : List ℕ). Released xs c.turns.waits c.release.new.waits c.take_lowest.new.self c.release.new.ready) c.customers_of.ensures c.in_ok-release.ensures))

pub turns-smaller : goal.turns-smaller
turns-smaller c =
    let few = few_ready c.args.links.now.stages c.args.links.now.arcs.now c.push.new.self (turns-preserved c).next in
    omega (arith, few, ap length c.in_ok-push.ensures.ok ∙ length_push c.turns.order c.in-Some.stage)
