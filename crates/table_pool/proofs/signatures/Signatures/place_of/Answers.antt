use Rattle.table_pool.proofs.SignatureFacts.{place_said}
use Rattle.table_pool.proofs.signatures.Signatures.place_of.Goals as goal

pub returns : goal.returns
returns c =
    place_said c.self.inside.signatures.keys c.args.self.now c.args.signature.now c.get_index_of.result c.self.view_is c.get_index_of.ensures.index c.get_index_of.ensures.found
