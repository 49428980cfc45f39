-- The stages of the children of the tables behind have their links.
use Rattle.std.proofs.Common.{take}
use Rattle.split_rules.specs.Links.{AreLinks}
use Rattle.split_rules.proofs.links.links_of.Given as goal

abbrev pub invariant-numbers : goal.invariant-numbers
invariant-numbers l = AreLinks l.network l.tables (take l.number-index l.numbers) l.links
