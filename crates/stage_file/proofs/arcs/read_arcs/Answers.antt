use Rattle.std.proofs.Common.{◌≡◌, length, refl}
use Rattle.std.proofs.lemmas.List.{length-map}
use Rattle.stage_file.proofs.ArcLimits.{read_within}
use Rattle.stage_file.proofs.arcs.read_arcs.Goals as goal

pub returns-clause-within : goal.returns-clause-within
returns-clause-within c =
    let names = c.in_ok-names.names in
    let many : length c.args.stages.now ≡ length names = rw (c.in_ok-names.ensures, length-map) refl in
    rw many (read_within names c.args.rows.now c.arcs_in.result c.arcs_in.ensures)
