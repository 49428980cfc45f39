-- The ends of arcs, by the numbers of their stages.
use Rattle.std.specs.Prelude.{◌≡◌, ℕ, ◌&&◌, Bool, false, nat_eq, List, map, Option, Some, None}
use Rattle.std.specs.List.{list_any}
use Rattle.stage_file.specs.declared.arcs.ArcRow.{ArcRow}
use Rattle.stage_file.specs.declared.ends.Ends.{Ends}
use Rattle.stage_file.specs.Records.{Numbered, field_in}
use Rattle.stage_file.specs.Arcs.{place_of}

-- two arcs have the same supplier and customer
unfoldable pub has_same_ends : Ends → Ends → Bool
has_same_ends a b = nat_eq a.supplier b.supplier && nat_eq a.customer b.customer

-- the ends of two stages, where both are there
abbrev pub joined : Option ℕ → Option ℕ → Option Ends
joined (Some supplier) (Some customer) = Some (record { supplier = supplier; customer = customer })
joined (Some supplier) None = None
joined None customer = None

-- the ends that the first two fields name, if both name stages
unfoldable pub ends_in : List (List ℕ) → List (List ℕ) → Option Ends
ends_in names fields = joined (place_of names (field_in fields 1)) (place_of names (field_in fields 2))

-- ends are among others
abbrev pub is_among : Option Ends → List Ends → Bool
is_among None all = false
is_among (Some ends) all = list_any (has_same_ends ends) all

-- the ends of an arc that was read
abbrev pub ends_of : ArcRow → Ends
ends_of a = record { supplier = a.supplier; customer = a.customer }

-- records all of whose ends are stages, and their ends
abbrev pub HaveEnds : List (List ℕ) → List Numbered → List Ends → Type 0
HaveEnds names records ends = map (λ r. ends_in names r.fields) records ≡ map (λ e. Some e) ends
