-- The first record of a name.
use Rattle.std.specs.Prelude.{ℕ, ◌-◌, Bool, List, [], ◌∷◌, Option, option_map, find}
use Rattle.stage_file.specs.Records.{Numbered, records_of, below_header}
use Rattle.stage_file.specs.Stages.{is_name_of}
use Rattle.stage_file.specs.Arcs.{has_ends}
use Rattle.edit_script.specs.declared.names.Name.{Name}
use Rattle.edit_script.specs.declared.names.Name.TheVariants.{One, Ends}

-- a record is that of the arc between a supplier and a customer
abbrev pub is_arc_of : List ℕ → List ℕ → Numbered → Bool
is_arc_of supplier customer = has_ends (supplier ∷ customer ∷ [])

-- a record is that of a name
abbrev pub is_of : Name → Numbered → Bool
is_of (One name) = is_name_of name.now
is_of (Ends supplier customer) = is_arc_of supplier.now customer.now

-- the first record behind the header that passes a test
abbrev pub first_record : (Numbered → Bool) → List (List (List ℕ)) → Option Numbered
first_record test rows = find test (below_header (records_of rows))

-- its place among the rows, those that hold no record counted too
unfoldable pub place_of : (Numbered → Bool) → List (List (List ℕ)) → Option ℕ
place_of test rows = option_map (λ r. r.number - 1) (first_record test rows)
