use Rattle.std.proofs.Common.{ℕ, ◌∙◌}
use Rattle.std.specs.Global.{Vec}
use Rattle.std.specs.Str.{bytes_eq}
use Rattle.stage_file.proofs.ListFacts.{position_seen}
use Rattle.stage_file.proofs.names.Names.place_of.Goals as goal

pub returns-clause-value : goal.returns-clause-value
returns-clause-value c =
    rw (← c.self.view_is) (c.get_index_of.ensures.index ∙ position_seen (λ (key : Vec ℕ). key.items) (bytes_eq c.args.name.now) c.self.inside.names.keys)
