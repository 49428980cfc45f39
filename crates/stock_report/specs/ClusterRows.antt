-- What is printed of the clusters of a network and of the bridges between them.
use Rattle.std.specs.Prelude.{ℕ, max, fold, List, [], ◌∷◌, ◌++◌, length, map, slice_index, codes, decimal}
use Rattle.std.specs.List.{range_with_len}
use Rattle.service_model.specs.Net.{arc_in}
use Rattle.network_check.specs.declared.checked.Checked.{Checked}
use Rattle.network_check.specs.Checked.{name_at}

-- how many clusters there are: the greatest number, since they are numbered from 1 on
abbrev pub cluster_count : List ℕ → ℕ
cluster_count clusters = fold max 0 clusters

-- the number of clusters
abbrev pub count_row : List ℕ → List (List ℕ)
count_row clusters = codes "clusters" ∷ decimal (cluster_count clusters) ∷ []

-- the header of the stages
abbrev pub cluster_header : List (List ℕ)
cluster_header = codes "stage" ∷ codes "cluster" ∷ []

-- a stage with the number of its cluster
abbrev pub member_row : Checked → List ℕ → ℕ → List (List ℕ)
member_row c clusters j = name_at c j ∷ decimal (slice_index clusters j) ∷ []

-- a bridge by the names of its ends
abbrev pub bridge_row : Checked → ℕ → List (List ℕ)
bridge_row c a =
    codes "bridge"
    ∷ name_at c (arc_in c.network.arcs a).supplier
    ∷ name_at c (arc_in c.network.arcs a).customer
    ∷ []

-- what is printed of clusters: how many there are, the cluster of each stage, and the bridges in their order
abbrev pub cluster_rows : Checked → List ℕ → List ℕ → List (List (List ℕ))
cluster_rows c bridges clusters =
    count_row clusters
    ∷ cluster_header
    ∷ map (member_row c clusters) (range_with_len 0 (length c.network.stages))
    ++ map (bridge_row c) bridges
