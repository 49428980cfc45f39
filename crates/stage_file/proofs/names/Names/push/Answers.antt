use Rattle.std.proofs.Common.{◌≡◌, false, refl}
use Rattle.std.specs.List.{list_any}
use Rattle.std.specs.Str.{bytes_eq}
use Rattle.stage_file.specs.Names.{names_of_keys}
use Rattle.stage_file.proofs.NameFacts.{names_push, distinct_push}
use Rattle.stage_file.proofs.names.Names.push.Goals as goal

pub returns-clause-ok : goal.returns-clause-ok
returns-clause-ok c =
    let name = c.in_ok-name.name in
    let absent : list_any (bytes_eq name.items) (names_of_keys c.self.inside.names.keys) ≡ false = rw (c.in_ok-name.ensures.items, c.self.view_is) c.requires in
    let pushed = names_push c.self.inside.names.keys name absent in
    rw (c.in_ok-insert.ensures.keys, pushed, c.self.view_is, c.in_ok-name.ensures.items) refl

pub invariant_of-self-2 : goal.invariant_of-self-2
invariant_of-self-2 c =
    let name = c.in_ok-name.name in
    let keys = c.self.inside.names.keys in
    let absent : list_any (bytes_eq name.items) (names_of_keys keys) ≡ false = rw (c.in_ok-name.ensures.items, c.self.view_is) c.requires in
    rw (c.in_ok-insert.ensures.keys, names_push keys name absent) (distinct_push (names_of_keys keys) name.items c.self.invariant absent)
