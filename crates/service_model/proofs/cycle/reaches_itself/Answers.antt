use Rattle.std.proofs.Common.{arith, ◌≡◌, ◌<◌, ◌≤◌, get_or, false, length, ℕ, List, ◌∙◌, ap, subst, sym}
use Rattle.std.specs.Prelude.{All}
use Rattle.std.proofs.lemmas.List.{length-replicate}
use Rattle.std.proofs.lemmas.List.Elements.{Contains-get_or}
use Rattle.service_model.specs.Customers.{customers_in}
use Rattle.service_model.specs.Marks.{MarksAll}
use Rattle.service_model.proofs.CustomerFacts.{customers_there}
use Rattle.service_model.proofs.SearchedFacts.{search_start, search_more, search_done}
use Rattle.service_model.proofs.cycle.reaches_itself.Goals as goal

pub mark_all-requires-clause-there : goal.mark_all-requires-clause-there
mark_all-requires-clause-there c =
    let links = c.args.links.now in
    let long : length c.in_ok-seen.seen ≡ c.args.links.now.stages = ap length c.in_ok-seen.ensures ∙ length-replicate links.stages false in
    subst (λ (xs : List ℕ). All (λ x. x < length c.in_ok-seen.seen) xs) (sym c.customers_of.ensures)
    (subst (λ n. All (λ x. x < n) (customers_in c.args.links.now.arcs.now c.args.stage)) (sym long) (customers_there links.stages links.arcs.now c.args.stage links.ends))

pub turns-init : goal.turns-init
turns-init c =
    record {
      searched = search_start c.args.links.now.arcs.now c.args.stage c.in_ok-seen.seen c.mark_all.new.seen c.new-queue.result c.mark_all.new.queue c.new-queue.ensures
          (subst (λ (xs : List ℕ). MarksAll xs c.in_ok-seen.seen c.mark_all.new.seen c.new-queue.result c.mark_all.new.queue) c.customers_of.ensures c.in_ok-mark_all.ensures);
      long = c.in_ok-mark_all.ensures.long ∙ ap length c.in_ok-seen.ensures ∙ length-replicate c.args.links.now.stages false;
    }

pub customers_of-requires-in-turns : goal.customers_of-requires-in-turns
customers_of-requires-in-turns c =
    let inside : c.turns.at < length c.turns.queue = omega (arith, c.turns-test.true, c.len.ensures) in
    let low = c.turns.invariant.searched.marks.there (get_or c.turns.queue c.turns.at 0) (Contains-get_or c.turns.queue c.turns.at 0 inside) in
    omega (arith, c.turns.invariant.long, low, c.get.ensures.whatever_else 0)

pub mark_all-requires-in-turns-clause-there : goal.mark_all-requires-in-turns-clause-there
mark_all-requires-in-turns-clause-there c =
    let links = c.args.links.now in
    subst (λ (xs : List ℕ). All (λ x. x < length c.turns.seen) xs) (sym c.customers_of-in-turns.ensures)
    (subst (λ n. All (λ x. x < n) (customers_in c.args.links.now.arcs.now c.get.result.now)) (sym c.turns.invariant.long) (customers_there links.stages links.arcs.now c.get.result.now links.ends))

pub turns-preserved : goal.turns-preserved
turns-preserved c =
    let inside : c.turns.at < length c.turns.queue = omega (arith, c.turns-test.true, c.len.ensures) in
    let row : c.customers_of-in-turns.result.now ≡ customers_in c.args.links.now.arcs.now (get_or c.turns.queue c.turns.at 0) =
    c.customers_of-in-turns.ensures ∙ ap (customers_in c.args.links.now.arcs.now) (sym (c.get.ensures.whatever_else 0)) in
    record {
      searched = search_more c.args.links.now.arcs.now c.args.stage c.turns.at c.turns.seen c.mark_all-in-turns.new.seen c.turns.queue c.mark_all-in-turns.new.queue c.turns.invariant.searched inside
          (subst (λ (xs : List ℕ). MarksAll xs c.turns.seen c.mark_all-in-turns.new.seen c.turns.queue c.mark_all-in-turns.new.queue) row c.in_ok-mark_all-2.ensures);
      long = c.in_ok-mark_all-2.ensures.long ∙ c.turns.invariant.long;
    }

pub returns : goal.returns
returns c =
    let past : length c.turns.queue ≤ c.turns.at = omega (arith, c.turns-test.false, c.len.ensures) in
    let value = c.get-2.ensures.whatever_else false in
    let done = search_done c.args.links.now.arcs.now c.args.stage c.turns.at c.turns.seen c.turns.queue c.turns.invariant.searched past in
    (λ on. done.0 (value ∙ on), λ cycle. sym value ∙ done.1 cycle)
