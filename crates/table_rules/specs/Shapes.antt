-- Tables that have their shape, each over the tables before it.
use Rattle.std.specs.Prelude.{ℕ, ◌<◌, List, length}
use Rattle.service_model.specs.declared.table.Table.{Table}
use Rattle.service_model.specs.Net.{Net}
use Rattle.service_model.specs.Tables.{table_at, IsShaped}

-- each table of the list is shaped as the network and the tables before it ask
abbrev pub AreShaped : Net → List Table → Type 0
AreShaped n tables = (i : ℕ) → i < length tables → IsShaped n tables i (table_at tables i)
