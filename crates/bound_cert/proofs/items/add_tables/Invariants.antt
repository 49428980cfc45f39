use Rattle.std.proofs.Common.{◌≡◌, ◌-◌, ◌++◌, map, take, drop}
use Rattle.service_model.specs.declared.cert.Item.TheVariants.{Table as TableItem}
use Rattle.bound_cert.proofs.items.add_tables.Given as goal

-- the tables that are still to be moved are the next ones
abbrev pub invariant-tables : goal.invariant-tables
invariant-tables l = record {
  items : l.items ++ map TableItem (take (l.count - l.counter) l.tables) ≡ l.initial.items ++ map TableItem (take l.count l.initial.tables);
  left : drop (l.count - l.counter) l.tables ≡ drop l.count l.initial.tables;
}
