-- Rows as lines of text.
use Rattle.std.specs.Prelude.{ℕ, List, flat_map}
use Rattle.csv.specs.Writing.{row_text, default_writer}

-- rows as csv writes them, one line each
unfoldable pub lines_of : List (List (List ℕ)) → List ℕ
lines_of rows = flat_map (row_text default_writer) rows
