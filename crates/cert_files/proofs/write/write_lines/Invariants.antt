use Rattle.std.proofs.Common.{◌≡◌, take, flat_map}
use Rattle.gsm_outside.specs.Held.{put_in}
use Rattle.bound_cert.specs.Lines as lines
use Rattle.cert_files.proofs.write.write_lines.Given as goal

abbrev pub invariant-lines : goal.invariant-lines
invariant-lines g l = record {
  held : g.S.Shelf.held l.shelf ≡ put_in l.name (flat_map lines.line_of (take l.item-index l.items)) (g.S.Shelf.held l.fn.shelf);
  reads : g.S.Shelf.read_faults l.shelf ≡ g.S.Shelf.read_faults l.fn.shelf;
  writes : g.S.Shelf.write_faults l.shelf ≡ g.S.Shelf.write_faults l.fn.shelf;
}
