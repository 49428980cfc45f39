-- Stages beside their excess demands.
use Rattle.std.proofs.Common.{◌≡◌, ℕ, ◌+◌, ◌<◌, ◌≤◌, List, [], ◌∷◌, ◌++◌, length, take, get_or, map, refl, ap, ◌∙◌, arith}
use Rattle.std.specs.List.{zip}
use Rattle.std.proofs.lemmas.List.{length-map, map_more, take_all, get_or-map}
use Rattle.std.proofs.lemmas.Slice.Zip.{length-zip, get_or-zip}
use Rattle.service_model.specs.declared.stage.Stage.{Stage}
use Rattle.stage_file.specs.declared.stages.StageRow.{StageRow}
use Rattle.demand_tables.specs.Demand.{no_row}
use Rattle.network_check.specs.Checked.{stage_with, stages_from}

-- a record beside its excess demands, as a stage
abbrev pub stage_of_pair : StageRow × List ℕ → Stage
stage_of_pair p = stage_with p.0 p.1

-- one stage for each record
pub length-stages_from : (rows : List StageRow) (lists : List (List ℕ)) → length lists ≡ length rows → length (stages_from rows lists) ≡ length rows
length-stages_from rows lists long = omega (arith, long, length-map (zip rows lists) stage_of_pair, length-zip rows lists)

-- the stage of a record
pub get_or-stages_from : (rows : List StageRow) (lists : List (List ℕ)) (j : ℕ) (d : Stage) → length lists ≡ length rows → j < length rows
    → get_or (stages_from rows lists) j d ≡ stage_with (get_or rows j no_row) (get_or lists j [])
get_or-stages_from rows lists j d long within =
    let inside : j < length (zip rows lists) = omega (arith, long, within, length-zip rows lists) in
    get_or-map stage_of_pair (zip rows lists) j (no_row, []) d inside ∙ ap stage_of_pair (get_or-zip rows lists j (no_row, []) within (omega (arith, long, within)))

-- one more stage
pub stages_more : (rows : List StageRow) (lists : List (List ℕ)) (k : ℕ) (s : StageRow) (xs : List ℕ) (before : List Stage) → length lists ≡ length rows → k < length rows
    → get_or rows k s ≡ s → get_or lists k xs ≡ xs → before ≡ map stage_of_pair (take k (zip rows lists)) → before ++ stage_with s xs ∷ [] ≡ map stage_of_pair (take (k + 1) (zip rows lists))
stages_more rows lists k s xs before long within row list so_far =
    let inside : k < length (zip rows lists) = omega (arith, long, within, length-zip rows lists) in
    let pair : get_or (zip rows lists) k (s, xs) ≡ (get_or rows k s, get_or lists k xs) = get_or-zip rows lists k (s, xs) within (omega (arith, long, within)) in
    rw (map_more stage_of_pair (zip rows lists) k (s, xs) inside, pair, row, list, so_far) refl

-- all stages
pub stages_all : (rows : List StageRow) (lists : List (List ℕ)) (k : ℕ) (made : List Stage) → length rows ≤ k → made ≡ map stage_of_pair (take k (zip rows lists)) → made ≡ stages_from rows lists
stages_all rows lists k made done so_far =
    let all : take k (zip rows lists) ≡ zip rows lists = take_all k (zip rows lists) (omega (arith, done, length-zip rows lists)) in
    so_far ∙ ap (map stage_of_pair) all
