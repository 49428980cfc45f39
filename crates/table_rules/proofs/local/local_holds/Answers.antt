-- The columns decide.
use Rattle.std.proofs.Common.{◌≡◌, ◌∙◌, arith, rules}
use Rattle.std.proofs.lemmas.List.{take_at}
use Rattle.table_rules.proofs.LocalFacts.{local_by_columns}
use Rattle.table_rules.proofs.local.local_holds.Goals as goal

pub returns-clause-holds : goal.returns-clause-holds
returns-clause-holds c =
    let down : c.deref.result.now ≡ c.write_down_sums.new.sums = c.deref.ensures.value ∙ take_at c.write_down_sums.new.sums _ _ (omega (arith, c.write_down_sums.auto.sums, c.deref_mut.ensures.len)) in
    let up : c.deref-2.result.now ≡ c.write_up_sums.new.sums = c.deref-2.ensures.value ∙ take_at c.write_up_sums.new.sums _ _ (omega (arith, c.write_up_sums.auto.sums, c.deref_mut-2.ensures.len)) in
    let columns = local_by_columns c.args.network.now c.args.earlier.now c.args.table.now c.write_down_sums.new.sums c.write_up_sums.new.sums c.requires.shaped.children
    (rw c.as_slice-children.ensures at c.write_down_sums.ensures) (rw c.as_slice-children.ensures at c.write_up_sums.ensures)
    (search rules) (search rules) (omega (arith, c.requires.shaped.sized.within)) in
    let held = rw (down, up) at c.columns_hold.ensures in
    (λ holds. columns.0 (held.0 holds), λ local. held.1 (columns.1 local))
