-- Records of which excess demands can be made.
use Rattle.std.specs.Prelude.{◌≢◌, ℕ, ◌<◌, ◌≤◌, List, length, All, AllPairs}
use Rattle.service_model.specs.declared.limits.TheConstants.{MAX_STAGES, MAX_ARCS}
use Rattle.stage_file.specs.declared.limits.TheConstants.{MAX_QUANTITY}
use Rattle.stage_file.specs.declared.tables.TableRow.{TableRow}
use Rattle.stage_file.specs.declared.arcs.ArcRow.{ArcRow}
use Rattle.stage_file.specs.declared.raw.RawNet.{RawNet}

-- both ends of an arc are stages of so many
pub record JoinsStages (stages : ℕ) (a : ArcRow) : Type 0 where
  pub supplier : a.supplier < stages
  pub customer : a.customer < stages

-- each table has a name of its own
abbrev pub HaveOwnNames : List TableRow → Type 0
HaveOwnNames tables = AllPairs (λ s t. s.name ≢ t.name) tables

-- each table has an entry
abbrev pub HaveEntries : List TableRow → Type 0
HaveEntries tables = All (λ t. 0 < length t.entries) tables

-- stages and arcs between them, not too many and with quantities in their range, and tables with entries and names of their own
pub record IsDemandNet (raw : RawNet) : Type 0 where
  pub few_stages : length raw.stages ≤ MAX_STAGES
  pub few_arcs : length raw.arcs ≤ MAX_ARCS
  pub ends : All (JoinsStages (length raw.stages)) raw.arcs
  pub quantities : All (λ a. a.quantity ≤ MAX_QUANTITY) raw.arcs
  pub entries : HaveEntries raw.tables
  pub names : HaveOwnNames raw.tables
