use Rattle.std.proofs.Common.{◌≡◌, refl}
use Rattle.network_check.specs.declared.checked.Checked.{Checked}
use Rattle.network_check.specs.Checked.{checked_from}
use Rattle.demand_tables.proofs.NetFacts.{read_is_demand}
use Rattle.network_check.proofs.TogetherFacts.{made_together}
use Rattle.network_check.proofs.network.checked_of.Goals as goal

pub tables_of-requires-clause-net : goal.tables_of-requires-clause-net
tables_of-requires-clause-net c = read_is_demand c.args.raw.now c.requires.read

pub returns : goal.returns
returns c =
    let raw = c.args.raw.now in
    let made : Checked = record { network = c.in_ok-network.network; names = c.in_ok-names_of.field-0; units = c.in_ok-units_of.field-0; excess = c.in_ok-excess.excess } in
    let same : made ≡ checked_from raw made.excess = rw (c.in_ok-network.ensures, c.in_ok-names_of.ensures, c.as_slice.ensures, c.in_ok-units_of.ensures, c.as_slice-2.ensures) refl in
    made_together raw made c.requires.acyclic c.in_ok-excess.ensures.value same
