use Rattle.std.proofs.Common.{ℕ, ◌∙◌}
use Rattle.std.specs.Global.{Vec}
use Rattle.std.specs.Str.{bytes_eq}
use Rattle.stage_file.proofs.ListFacts.{list_any_seen}
use Rattle.stage_file.proofs.names.Names.has.Goals as goal

pub returns : goal.returns
returns c =
    rw (← c.self.view_is) (c.contains.ensures ∙ list_any_seen (λ (key : Vec ℕ). key.items) (bytes_eq c.args.name.now) c.self.inside.names.keys)
