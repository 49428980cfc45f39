use Rattle.std.proofs.Common.{◌≡◌, replicate, [], List}
use Rattle.stage_file.specs.declared.arcs.ArcRow.{ArcRow}
use Rattle.demand_tables.proofs.lookups.empty_lists.Given as goal

abbrev pub invariant-stages : goal.invariant-stages
invariant-stages l = l.lists.items ≡ (let none : List ArcRow = [] in replicate l._stage none)
