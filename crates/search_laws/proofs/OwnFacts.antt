-- A search's own certificate has no more nodes than are enough, and is spent only where its budget is less.
use Rattle.std.proofs.Common.{◌≡◌, ℕ, ◌<◌, ◌≤◌, length, subst}
use Rattle.service_model.specs.declared.cert.Outcome.TheVariants.{Spent}
use Rattle.service_model.specs.declared.cert.Cert.{Cert}
use Rattle.service_model.specs.Net.{Net}
use Rattle.service_model.specs.Networks.{IsNetwork}
use Rattle.service_model.specs.Items.{items_of}
use Rattle.service_model.specs.Held.{none_held}
use Rattle.tree_order.specs.declared.forest.Forest.{Forest}
use Rattle.tree_order.specs.Forest.{IsForest}
use Rattle.search_laws.specs.Own.{IsOwn}
use Rattle.search_laws.specs.Enough.{enough_of}
use Rattle.search_laws.proofs.HoldFacts.{all_hold}
use Rattle.search_laws.proofs.EnoughFacts.{nodes_law, enough_law}

pub own_few : (n : Net) (f : Forest) (budget : ℕ) (c : Cert) → IsNetwork n → IsForest (length n.stages) n.arcs f → IsOwn n f budget c
    → length c.nodes ≤ enough_of n f
own_few n f budget c valid forest own = nodes_law n f c valid forest (all_hold n none_held (items_of c) own.keep) own.nodes

pub own_spent : (n : Net) (f : Forest) (budget : ℕ) (c : Cert) → IsNetwork n → IsForest (length n.stages) n.arcs f → IsOwn n f budget c
    → c.verdict.outcome ≡ Spent → budget < enough_of n f
own_spent n f budget c valid forest own spent =
    subst (λ b. b < enough_of n f) own.budget_is (enough_law n f c valid forest (all_hold n none_held (items_of c) own.keep) own.nodes spent)
