use Rattle.bound_cert.proofs.SeenFacts.{cert_seen}
use Rattle.bound_cert.proofs.laws.cert_seen.Goals as goal

pub returns : goal.returns
returns c = cert_seen
