-- How the tables of a node hang below one another, stage by stage.
use Rattle.std.specs.Prelude.{◌≡◌, ◌≢◌, ℕ, ◌⊎◌, List, length, slice_index_or, Contains}
use Rattle.std.specs.List.{flat_map, AllByRecursion}
use Rattle.service_model.specs.declared.stage.SupplyArc.{SupplyArc}
use Rattle.service_model.specs.declared.table.Kind.TheVariants.{Down, Up, Root}
use Rattle.service_model.specs.declared.table.Table.{Table}
use Rattle.service_model.specs.Net.{Net}
use Rattle.service_model.specs.Tables.{table_at}
use Rattle.gsm_laws.specs.Traces.{IsAbsent}
use Rattle.split_rules.specs.declared.links.Link.{Link}

-- the link of a stage whose table hangs below none
abbrev pub no_link : Link
no_link = record { parent = 0; kind = Root }

-- the link of stage j
abbrev pub link_at : List Link → ℕ → Link
link_at links j = slice_index_or links j no_link

-- how table c hangs below table k
abbrev pub link_of : List Table → ℕ → ℕ → Link
link_of tables k c = record { parent = (table_at tables k).stage; kind = (table_at tables c).kind }

-- the stages of these children of table k have their links
abbrev pub AreLinked : List Table → List Link → ℕ → List ℕ → Type 0
AreLinked tables links k cs = AllByRecursion (λ c. link_at links (table_at tables c).stage ≡ link_of tables k c) cs

-- the stages of these children of table k have their links, and each other stage has the one that it had
pub record LinksMore (tables : List Table) (k : ℕ) (cs : List ℕ) (old new : List Link) : Type 0 where
  pub long : length new ≡ length old
  pub sets : AreLinked tables new k cs
  pub keeps : (j : ℕ) → IsAbsent tables j cs → link_at new j ≡ link_at old j

-- stage j is that of a child of one of these tables, and has its link
pub record IsLinked (tables : List Table) (ks : List ℕ) (links : List Link) (j : ℕ) : Type 0 where
  pub parent : ℕ
  pub child : ℕ
  pub among : Contains ks parent
  pub below : Contains (table_at tables parent).children child
  pub stage : (table_at tables child).stage ≡ j
  pub link : link_at links j ≡ link_of tables parent child

-- the stages of all children of these tables have their links, and no other stage hangs below a table
pub record AreLinks (n : Net) (tables : List Table) (ks : List ℕ) (links : List Link) : Type 0 where
  pub long : length links ≡ length n.stages
  pub sets : AllByRecursion (λ k. AreLinked tables links k (table_at tables k).children) ks
  pub only : (j : ℕ) → (link_at links j).kind ≢ Root → IsLinked tables ks links j

-- the arc leads between tables of which one hangs below the other: from a child to its parent, or the other way round
abbrev pub IsHung : List Link → SupplyArc → Type 0
IsHung links a =
    (((link_at links a.supplier).kind ≡ Down) × ((link_at links a.supplier).parent ≡ a.customer))
    ⊎ (((link_at links a.customer).kind ≡ Up) × ((link_at links a.customer).parent ≡ a.supplier))

-- the children of these tables, table after table
abbrev pub children_of : List Table → List ℕ → List ℕ
children_of tables ks = flat_map (λ k. (table_at tables k).children) ks
