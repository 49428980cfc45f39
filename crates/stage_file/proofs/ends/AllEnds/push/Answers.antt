use Rattle.std.proofs.Common.{◌≡◌, false, refl}
use Rattle.std.specs.List.{list_any}
use Rattle.stage_file.specs.Ends.{has_same_ends}
use Rattle.stage_file.proofs.ends.AllEnds.push.Goals as goal

pub returns-clause-ok : goal.returns-clause-ok
unfolding has_same_ends
returns-clause-ok c =
    let absent : list_any (has_same_ends c.args.ends) c.self.inside.ends.keys ≡ false = rw c.self.view_is c.requires in
    rw (c.in_ok-insert.ensures.keys, absent, c.self.view_is) refl
