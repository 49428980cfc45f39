use Rattle.range_nodes.proofs.TableFacts.{new_tables}
use Rattle.range_nodes.proofs.laws.new_tables_law.Goals as goal

pub returns : goal.returns
returns c = new_tables
