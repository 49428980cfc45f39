use Rattle.std.proofs.Common.{◌≡◌, List, length, get_or, ⊎_elim, arith}
use Rattle.std.specs.Prelude.{All}
use Rattle.std.proofs.lemmas.Bool.{cases_lt}
use Rattle.std.proofs.lemmas.List.{get_or_past}
use Rattle.service_model.specs.declared.table.Table.{Table}
use Rattle.service_model.specs.Net.{Net}
use Rattle.service_model.specs.Tables.{place_of}
use Rattle.service_model.specs.LocalSums.{Local}
use Rattle.split_rules.proofs.tests.are_sound.Goals as goal

free_local : (n : Net) (tables : List Table) (t : Table) → All (λ x. x ≡ 0) t.values → Local n tables t
free_local n tables t free inbound outbound covers =
    let at = place_of t inbound outbound in
    let none : get_or t.values at 0 ≡ 0 = ⊎_elim (λ low. free at 0 low) (λ past. get_or_past t.values at 0 past) (cases_lt at (length t.values)) in
    omega (arith, none)

pub returns-then-are_shaped : goal.returns-then-are_shaped
returns-then-are_shaped c = λ free. record {
  shaped = c.are_shaped.ensures c.if-are_shaped.true;
  lower = λ i there. free_local c.args.network.now c.args.tables.now _ (c.are_free.ensures free i there);
}
