-- One row more of the stage file.
use Rattle.std.proofs.Common.{◌≡◌, ℕ, ◌+◌, ◌<◌, Bool, false, List, [], ◌∷◌, ◌++◌, length, get_or, map, ap, ◌∙◌, refl, arith}
use Rattle.std.specs.List.{range_with_len}
use Rattle.std.proofs.lemmas.List.{get_or_default}
use Rattle.std.proofs.lemmas.List.FromFn.{map-range_with_len_more}
use Rattle.trial_rows.specs.declared.drawn.TrialStage.{TrialStage}
use Rattle.trial_rows.specs.declared.drawn.TrialArc.{TrialArc}
use Rattle.trial_rows.specs.Trials.{stage_of, is_supplier, row_of_stage, stage_row, stage_header}

-- the mark of a stage
pub mark_is : (marks : List Bool) (arcs : List TrialArc) (n j : ℕ) (mark : Bool) → length marks ≡ n → j < n → ((k : ℕ) → k < n → get_or marks k false ≡ is_supplier arcs k) → mark ≡ get_or marks j mark → mark ≡ is_supplier arcs j
mark_is marks arcs n j mark long inside each at = at ∙ get_or_default marks j mark false (omega arith) ∙ each j inside

-- the row of the next stage behind the others
pub stage_more : (stages : List TrialStage) (arcs : List TrialArc) (j : ℕ) (front all : List (List (List ℕ))) (row : List (List ℕ)) (mark : Bool)
    → front ≡ stage_header ∷ map (stage_row stages arcs) (range_with_len 0 j) → mark ≡ is_supplier arcs j → row ≡ row_of_stage j (stage_of stages j) mark → all ≡ front ++ row ∷ []
    → all ≡ stage_header ∷ map (stage_row stages arcs) (range_with_len 0 (j + 1))
stage_more stages arcs j front all row mark before is made pushed =
    let here : row ≡ stage_row stages arcs j = made ∙ ap (λ (b : Bool). row_of_stage j (stage_of stages j) b) is in
    rw (map-range_with_len_more (stage_row stages arcs) 0 j j (omega arith), pushed, here, before) refl
