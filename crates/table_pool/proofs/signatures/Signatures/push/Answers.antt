use Rattle.std.proofs.Common.{◌∙◌, ap, map}
use Rattle.table_pool.specs.Signatures.{signed_by}
use Rattle.table_pool.proofs.SignatureFacts.{signed_push}
use Rattle.table_pool.proofs.signatures.Signatures.push.Goals as goal

pub returns-clause-ok : goal.returns-clause-ok
returns-clause-ok c =
    ap (map signed_by) c.in_ok-insert.ensures.keys ∙ signed_push c.self.inside.signatures.keys c.args.self.now c.args.signature c.self.view_is c.requires
