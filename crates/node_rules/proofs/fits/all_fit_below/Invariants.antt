-- The marked tables behind fit the range, and their children are marked.
use Rattle.service_model.specs.Tables.{table_at}
use Rattle.service_model.specs.Nodes.{Fits}
use Rattle.node_rules.proofs.FitFacts.{Looked}
use Rattle.node_rules.proofs.fits.all_fit_below.Given as goal

abbrev pub invariant-tables : goal.invariant-tables
invariant-tables l = Looked (λ k. Fits l.range.network.now l.range.range.now (table_at l.tables k)) l.tables l.roots l.marks l.number
