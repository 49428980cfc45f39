-- How many tables the nodes of a certificate have seen.
use Rattle.std.specs.Prelude.{◌≡◌, ◌≤◌, List, ◌∷◌, ◌++◌, length, All}
use Rattle.std.specs.List.Sorted.{IsNonDecreasingBy}
use Rattle.service_model.specs.declared.cert.Node.{Node}
use Rattle.service_model.specs.declared.cert.Cert.{Cert}
use Rattle.service_model.specs.declared.cert.Item.{Item}
use Rattle.service_model.specs.declared.cert.Item.TheVariants.{Node as NodeItem}
use Rattle.service_model.specs.Items.{tables_in}

-- each node among items has seen just the tables before it
abbrev pub HaveSeen : List Item → Type 0
HaveSeen items = (front rest : List Item) (x : Node) → items ≡ front ++ NodeItem x ∷ rest → x.seen ≡ length (tables_in front)

-- each node of a certificate has seen as many tables as there are at most, and no fewer than the node before it
pub record SeesInTurn (c : Cert) : Type 0 where
  pub there : All (λ x. x.seen ≤ length c.tables) c.nodes
  pub rising : IsNonDecreasingBy (λ x. x.seen) c.nodes
