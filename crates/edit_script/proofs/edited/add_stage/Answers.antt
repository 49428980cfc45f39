use Rattle.std.proofs.Common.{ℕ, List, Some, ap, sym, ◌∙◌}
use Rattle.stage_file.specs.declared.raw.Files.{Files}
use Rattle.edit_script.specs.Edited.{with_stages}
use Rattle.edit_script.proofs.edited.add_stage.Goals as goal

pub returns : goal.returns
returns c =
    ap (λ (rows : List (List (List ℕ))). Some (with_stages c.args.files.now rows)) (sym c.in_ok-stages.ensures)
    ∙ ap (λ (files : Files). Some files) (sym c.in_ok-with_stages.ensures)
