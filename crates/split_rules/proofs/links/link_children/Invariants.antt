-- The stages of the children behind have their links.
use Rattle.std.proofs.Common.{take}
use Rattle.service_model.specs.Tables.{table_at}
use Rattle.split_rules.specs.Links.{LinksMore}
use Rattle.split_rules.proofs.links.link_children.Given as goal

abbrev pub invariant-children : goal.invariant-children
invariant-children l = LinksMore l.tables l.number (take l.child-index (table_at l.tables l.number).children) l.initial.links l.links
