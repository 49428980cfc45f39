-- What a table is of: all of it but its values.
use Rattle.std.specs.Prelude.{[]}
use Rattle.service_model.specs.declared.table.Table.{Table}
use Rattle.table_pool.specs.declared.signature.Signature.{Signature}

-- the table without its values
abbrev pub unvalued : Table → Table
unvalued t = record t { values = [] }

-- the table without values that has the signature
abbrev pub signed_by : Signature → Table
signed_by s = record {
  stage = s.stage;
  kind = s.kind;
  least = s.least;
  most = s.most;
  floor = s.floor;
  children = s.children.items;
  values = [];
}
