use Rattle.std.proofs.Common.{◌≡◌, ◌++◌, take, length, rules, arith}
use Rattle.std.proofs.lemmas.Grind.{common_steps}
use Rattle.request_files.proofs.ReadFacts.{told_more}
use Rattle.request_files.proofs.fetch.read_more.Goals as goal

pub returns-else-is_err-clause-front : goal.returns-else-is_err-clause-front
returns-else-is_err-clause-front g c =
    let old = c.args.bytes.now.items in
    let at : c.len.result ≡ length old = search rules in
    let items : c.extend_from_slice.new.self.items ≡ old ++ take c.in-Ok.count c.fetch.new.buf = grind (arith, common_steps) in
    rw items (told_more (g.S.Shelf.held c.args.shelf.now) c.args.name.now old c.fetch.new.buf c.len.result c.in-Ok.count at c.in-Ok.ensures.bytes)
