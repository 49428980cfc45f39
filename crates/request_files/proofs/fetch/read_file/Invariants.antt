use Rattle.std.proofs.Common.{◌≡◌, ◌+◌, ◌-◌, ◌≤◌, length}
use Rattle.request_files.specs.Reading.{IsFront, WhereTold}
use Rattle.request_files.proofs.fetch.read_file.Given as goal

abbrev pub invariant-turns : goal.invariant-turns
invariant-turns g l = record {
  few : length l.bytes.items ≤ l.limit + 1;
  front : WhereTold (g.S.Shelf.held l.initial.shelf) l.name (λ file. IsFront file l.bytes.items);
  held : g.S.Shelf.held l.shelf ≡ g.S.Shelf.held l.initial.shelf;
  reads : g.S.Shelf.read_faults l.shelf ≡ g.S.Shelf.read_faults l.initial.shelf;
  writes : g.S.Shelf.write_faults l.shelf ≡ g.S.Shelf.write_faults l.initial.shelf;
}

abbrev pub decreases-turns : goal.decreases-turns
decreases-turns g l = (l.limit + 1) - length l.bytes.items
