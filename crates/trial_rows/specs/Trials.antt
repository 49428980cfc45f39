-- A trial network by its drawn numbers, and its files.
use Rattle.std.specs.Prelude.{◌≡◌, ◌≢◌, ℕ, ◌+◌, ◌<◌, ◌≤◌, ◌⊎◌, ◌==◌, min, Bool, List, [], ◌∷◌, ◌++◌, length, map, slice_index_or, codes, decimal, All, AllPairs, if◌then◌else◌}
use Rattle.std.specs.List.{range_with_len, list_any}
use Rattle.service_model.specs.declared.limits.TheConstants.{MAX_STAGES, MAX_ARCS, MAX_HORIZON}
use Rattle.stage_file.specs.declared.raw.Files.{Files}
use Rattle.trial_rows.specs.declared.drawn.TrialStage.{TrialStage}
use Rattle.trial_rows.specs.declared.drawn.TrialArc.{TrialArc}

-- what stands for a stage that there is not
abbrev pub no_stage : TrialStage
no_stage = record { rank = 0; lead = 0; factor = 0; unit = 0 }

-- the drawn numbers of stage j, from 0 on
abbrev pub stage_of : List TrialStage → ℕ → TrialStage
stage_of stages j = slice_index_or stages j no_stage

-- stage i comes before stage j: by its rank, and among equal ranks by its number
abbrev pub ComesBefore : List TrialStage → ℕ → ℕ → Type 0
ComesBefore stages i j =
    ((stage_of stages i).rank < (stage_of stages j).rank) ⊎ (((stage_of stages i).rank ≡ (stage_of stages j).rank) × (i < j))

-- a stage's drawn numbers are within their ranges under a horizon
pub record StageWithin (horizon : ℕ) (s : TrialStage) : Type 0 where
  pub lead : s.lead ≤ min 10 horizon
  pub some_factor : 1 ≤ s.factor
  pub factor : s.factor ≤ 100
  pub some_unit : 1 ≤ s.unit
  pub unit : s.unit ≤ 50

-- an arc joins two stages, from the one that comes before
pub record ArcWithin (stages : List TrialStage) (a : TrialArc) : Type 0 where
  pub supplier : a.supplier < length stages
  pub customer : a.customer < length stages
  pub before : ComesBefore stages a.supplier a.customer

-- a trial network by its drawn numbers
pub record IsTrial (horizon : ℕ) (stages : List TrialStage) (arcs : List TrialArc) : Type 0 where
  pub horizon_within : horizon ≤ MAX_HORIZON
  pub some : 1 ≤ length stages
  pub few : length stages ≤ MAX_STAGES
  pub few_arcs : length arcs ≤ MAX_ARCS
  pub within : All (StageWithin horizon) stages
  pub arcs_within : All (ArcWithin stages) arcs
  pub once : AllPairs (λ a b. a ≢ b) arcs

-- a stage's name: s and its number from 1 on
abbrev pub name_of : ℕ → List ℕ
name_of j = codes "s" ++ decimal (j + 1)

-- an arc leaves the stage
abbrev pub is_supplier : List TrialArc → ℕ → Bool
is_supplier arcs j = list_any (λ a. a.supplier == j) arcs

-- the row of stage j, which is a supplier or not: its greatest outbound time is 0 where no arc leaves it, and else blank
abbrev pub row_of_stage : ℕ → TrialStage → Bool → List (List ℕ)
row_of_stage j s supplies =
    name_of j
    ∷ decimal s.lead
    ∷ []
    ∷ []
    ∷ (if supplies then [] else codes "0")
    ∷ (codes "normal:" ++ decimal s.factor)
    ∷ decimal s.unit
    ∷ []

-- the row of stage j
abbrev pub stage_row : List TrialStage → List TrialArc → ℕ → List (List ℕ)
stage_row stages arcs j = row_of_stage j (stage_of stages j) (is_supplier arcs j)

-- the row of an arc
abbrev pub arc_row : TrialArc → List (List ℕ)
arc_row a = name_of a.supplier ∷ name_of a.customer ∷ codes "1" ∷ []

-- the usual header of a stage file
abbrev pub stage_header : List (List ℕ)
stage_header = codes "stage" ∷ codes "lead" ∷ codes "supply" ∷ codes "least" ∷ codes "most" ∷ codes "bound" ∷ codes "unit" ∷ []

-- the usual header of an arc file
abbrev pub arc_header : List (List ℕ)
arc_header = codes "supplier" ∷ codes "customer" ∷ codes "quantity" ∷ []

-- the files of a trial network: each has its header, but that of tables, which has no rows
abbrev pub trial_files : List TrialStage → List TrialArc → Files
trial_files stages arcs = record {
  stages = stage_header ∷ map (stage_row stages arcs) (range_with_len 0 (length stages));
  tables = [];
  arcs = arc_header ∷ map arc_row arcs;
}
