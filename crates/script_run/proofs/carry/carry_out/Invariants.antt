use Rattle.std.proofs.Common.{◌≡◌, ◌≤◌, ◌+◌, ◌*◌, None, take}
use Rattle.std.specs.Prelude.{option_map}
use Rattle.network_check.specs.declared.budget.TheConstants.{MOST_VALUES}
use Rattle.script_run.specs.Halts.{outside_of}
use Rattle.script_run.specs.Progress.{IsSoFar, AreGrown}
use Rattle.script_run.proofs.carry.carry_out.Given as goal

abbrev pub invariant-rows : goal.invariant-rows
invariant-rows g l = record {
  far : IsSoFar l.fn.session l.session (take l.k l.script) (option_map (λ n. n.now) l.name) (outside_of (g.S.Shelf.held l.fn.shelf) (g.S.Shelf.held l.shelf) (g.S.Shelf.write_faults l.fn.shelf) (g.S.Shelf.write_faults l.shelf) (g.K.Sink.written l.fn.out) (g.K.Sink.written l.out) (g.K.Sink.faults l.fn.out) (g.K.Sink.faults l.out)) l.fn.steps l.steps l.count;
  grown : AreGrown l.fn.session.files l.session.files l.k;
  lines : l.count.lines ≤ l.k;
  certs : l.count.certs ≤ l.k;
  later : l.fn.steps ≤ l.steps;
  few : l.steps ≤ l.fn.steps + MOST_VALUES * l.k;
  reads : g.S.Shelf.read_faults l.shelf ≡ g.S.Shelf.read_faults l.fn.shelf;
  unnamed : option_map (λ n. n.now) l.name ≡ None → g.S.Shelf.write_faults l.shelf ≡ g.S.Shelf.write_faults l.fn.shelf;
}
