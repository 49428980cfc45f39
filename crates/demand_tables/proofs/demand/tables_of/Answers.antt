use Rattle.std.proofs.Common.{rules}
use Rattle.demand_tables.proofs.CaseFacts.{only_case}
use Rattle.demand_tables.proofs.demand.tables_of.Goals as goal

pub returns-clause-only : goal.returns-clause-only
returns-clause-only c = only_case c.args.raw.now c.excess_lists.result c.requires.net.ends c.requires.acyclic (search rules)
