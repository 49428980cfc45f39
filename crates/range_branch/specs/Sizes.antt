-- How long the lists of a certificate are.
use Rattle.std.specs.Prelude.{All, IfSome}
use Rattle.service_model.specs.declared.cert.Cert.{Cert}
use Rattle.service_model.specs.Net.{Net}
use Rattle.service_model.specs.Plans.{HasTimes}
use Rattle.range_nodes.specs.Sizes.{IsShortTable, IsShortNode}

-- the certificate's tables, nodes and plan are short
pub record IsShortCert (n : Net) (c : Cert) : Type 0 where
  pub tables : All (IsShortTable n) c.tables
  pub nodes : All (IsShortNode n) c.nodes
  pub plan : IfSome c.verdict.plan (HasTimes n)
