-- What the certificate of a session's search is.
use Rattle.std.specs.Prelude.{◌≡◌, ◌<◌, ◌≤◌, [], length}
use Rattle.service_model.specs.declared.cert.Cert.{Cert}
use Rattle.service_model.specs.declared.cert.Outcome.TheVariants.{Spent}
use Rattle.service_model.specs.Verdicts.{IsTrueOf}
use Rattle.tree_order.specs.declared.forest.Forest.{Forest}
use Rattle.tree_order.specs.Forest.{IsForest, IsOnlyForest}
use Rattle.search_laws.specs.Own.{IsOwn}
use Rattle.search_laws.specs.Enough.{enough_of}
use Rattle.range_branch.specs.Sizes.{IsShortCert}
use Rattle.range_branch.specs.Solutions.{Solves}
use Rattle.edit_reuse.specs.Sessions.{State, network_of}

-- the certificate is that of a search over the network of a session and its one forest, within its budget
pub record IsAnswer (s : State) (c : Cert) : Type 0 where
  pub forest : Forest
  pub is_forest : IsForest (length (network_of s).stages) (network_of s).arcs forest
  pub only : IsOnlyForest (length (network_of s).stages) (network_of s).arcs forest
  pub own : IsOwn (network_of s) forest s.made.budget c
  pub true_verdict : IsTrueOf (network_of s) c.verdict
  pub short : IsShortCert (network_of s) c
  pub nodes : length c.nodes ≤ enough_of (network_of s) forest
  pub spent : c.verdict.outcome ≡ Spent → s.made.budget < enough_of (network_of s) forest
  -- where the forest drops no arc, one range solves the network, with one table for each stage
  pub solved : forest.dropped ≡ [] → Solves (network_of s) c.verdict
  pub one : forest.dropped ≡ [] → length c.nodes ≡ 1
  pub stages : forest.dropped ≡ [] → length c.tables ≡ length (network_of s).stages
