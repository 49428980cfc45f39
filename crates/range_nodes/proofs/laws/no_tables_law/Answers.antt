use Rattle.range_nodes.proofs.TableFacts.{no_tables}
use Rattle.range_nodes.proofs.laws.no_tables_law.Goals as goal

pub returns : goal.returns
returns c = no_tables
