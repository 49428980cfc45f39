use Rattle.std.proofs.Common.{◌<◌, List, ℕ, length, sym, ◌∙◌, subst}
use Rattle.std.specs.Prelude.{All}
use Rattle.service_model.specs.Nodes.{below_roots}
use Rattle.gsm_laws.proofs.AgreeFacts.{Apart, once_from_apart}
use Rattle.node_rules.specs.Walks.{IsWalk}
use Rattle.node_rules.proofs.FitFacts.{below_there}
use Rattle.split_rules.specs.Links.{AreLinks, children_of}
use Rattle.split_rules.proofs.CountFacts.{children_apart}
use Rattle.split_rules.proofs.HungFacts.{children_met, all_hung_met}
use Rattle.split_rules.proofs.links.meets_below.Goals as goal

pub links_of-requires-clause-there : goal.links_of-requires-clause-there
links_of-requires-clause-there c =
    let walked = subst (IsWalk c.args.tables.now c.args.roots.now) c.in-Some.is c.in_ok-numbers.ensures in
    subst (All (λ k. k < length c.args.tables.now)) (sym (c.as_slice.ensures ∙ walked.0))
    (below_there c.args.network.now c.args.tables.now c.args.roots.now c.requires.sound c.requires.there)

pub links_of-requires-clause-once : goal.links_of-requires-clause-once
links_of-requires-clause-once c =
    let walked = subst (IsWalk c.args.tables.now c.args.roots.now) c.in-Some.is c.in_ok-numbers.ensures in
    once_from_apart _ _
    (subst (λ (ks : List ℕ). Apart c.args.tables.now (children_of c.args.tables.now ks)) (sym (c.as_slice.ensures ∙ walked.0))
    (children_apart c.args.network.now c.args.tables.now c.args.roots.now c.requires.sound c.requires.there c.requires.once))

pub returns : goal.returns
returns c =
    let n = c.args.network.now in
    let tables = c.args.tables.now in
    let ks = below_roots tables c.args.roots.now in
    let walked = subst (IsWalk tables c.args.roots.now) c.in-Some.is c.in_ok-numbers.ensures in
    let are : AreLinks n tables ks c.in_ok-links.links =
    subst (λ (xs : List ℕ). AreLinks n tables xs c.in_ok-links.links) (c.as_slice.ensures ∙ walked.0) c.in_ok-links.ensures in
    let valid = c.meets_hung.ensures.valid in (
      λ is.
          children_met n tables ks c.in_ok-links.links c.args.plan.now valid c.requires.sound
          (below_there n tables c.args.roots.now c.requires.sound c.requires.there) are (c.meets_hung.ensures.met.0 is),
      λ all. c.meets_hung.ensures.met.1 (all_hung_met n tables ks c.in_ok-links.links c.args.plan.now valid are all),
    )
