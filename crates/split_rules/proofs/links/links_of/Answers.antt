use Rattle.std.proofs.Common.{◌<◌, length, rules}
use Rattle.gsm_laws.proofs.AgreeFacts.{apart_from_once, once_from_apart}
use Rattle.split_rules.specs.Links.{children_of}
use Rattle.split_rules.proofs.LinkFacts.{own_children_apart, table_more}
use Rattle.split_rules.proofs.links.links_of.Goals as goal

pub link_children-requires-clause-once : goal.link_children-requires-clause-once
link_children-requires-clause-once c =
    let tables = c.args.tables.now in
    let ks = c.args.numbers.now in
    let within : c.numbers.number-index < length ks = search rules in
    once_from_apart _ _ (own_children_apart tables ks c.numbers.number-index within (apart_from_once tables (children_of tables ks) c.requires.once))

pub numbers-preserved : goal.numbers-preserved
numbers-preserved c =
    let tables = c.args.tables.now in
    let ks = c.args.numbers.now in
    let within : c.numbers.number-index < length ks = search rules in
    table_more c.args.network.now tables ks c.numbers.number-index c.numbers.links c.link_children.new.links within
    (apart_from_once tables (children_of tables ks) c.requires.once) c.numbers.invariant c.link_children.ensures
