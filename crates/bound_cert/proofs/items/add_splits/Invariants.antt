use Rattle.std.proofs.Common.{◌≡◌, ◌-◌, ◌++◌, map, take, drop}
use Rattle.service_model.specs.declared.cert.Item.TheVariants.{Split as SplitItem}
use Rattle.bound_cert.proofs.items.add_splits.Given as goal

-- the splits that are still to be moved are the next ones
abbrev pub invariant-splits : goal.invariant-splits
invariant-splits l = record {
  items : l.items ++ map SplitItem (take (l.count - l.counter) l.splits) ≡ l.initial.items ++ map SplitItem (take l.count l.initial.splits);
  left : drop (l.count - l.counter) l.splits ≡ drop l.count l.initial.splits;
}
