use Rattle.std.proofs.Common.{◌≡◌, ◌∙◌, Result, Ok, Err, rules}
use Rattle.std.specs.Result.{OnErr}
use Rattle.bound_cert.specs.Lines as lines
use Rattle.gsm_outside.specs.Held.{AddedPart}
use Rattle.cert_files.proofs.PutFacts.{front_put, part_put, line_put}
use Rattle.cert_files.proofs.write.write_lines.Goals as goal

-- a fact that always holds does so after an error
on_err : {T E : Type 0} (r : Result T E) (P : Type 0) → P → OnErr r P
on_err (Ok x) P p = tt
on_err (Err e) P p = p

pub returns-in_default-clause-err : goal.returns-in_default-clause-err
returns-in_default-clause-err g c = front_put (g.S.Shelf.held c.args.shelf.now) (g.S.Shelf.held c.lines.shelf) c.args.name.now lines.line_of c.args.items.now c.lines.item-index c.lines.invariant.held

pub returns-in_err-append-clause-err : goal.returns-in_err-append-clause-err
returns-in_err-append-clause-err g c =
    let piece : c.as_slice.result.now ≡ lines.line_of c.item-item.result = c.as_slice.ensures ∙ c.in-Ok.ensures in
    let added : AddedPart c.args.name.now (lines.line_of c.item-item.result) (g.S.Shelf.held c.lines.shelf) (g.S.Shelf.held c.append.new.self) = rw piece at c.in_err-append.ensures.err in
    let part = part_put (g.S.Shelf.held c.args.shelf.now) (g.S.Shelf.held c.lines.shelf) (g.S.Shelf.held c.append.new.self) c.args.name.now lines.line_of c.args.items.now c.lines.item-index c.item-item.result c.lines-test.true c.item-item.is c.lines.invariant.held added in
    on_err c.from_residual-in_err-append.result _ part

pub lines-preserved : goal.lines-preserved
lines-preserved g c =
    let piece : c.as_slice.result.now ≡ lines.line_of c.item-item.result = c.as_slice.ensures ∙ c.in-Ok.ensures in
    let added = rw piece at c.in_ok-append.ensures.ok in
    record {
      held = line_put (g.S.Shelf.held c.args.shelf.now) (g.S.Shelf.held c.lines.shelf) (g.S.Shelf.held c.append.new.self) c.args.name.now lines.line_of c.args.items.now c.lines.item-index c.item-item.result c.lines-test.true c.item-item.is c.lines.invariant.held added;
      reads = search rules;
      writes = search rules;
    }
