-- How many nodes a search has, and which budgets are never spent.
use Rattle.std.specs.Prelude.{◌≡◌, ◌<◌, ◌≤◌, [], length}
use Rattle.service_model.specs.declared.cert.Outcome.TheVariants.{Spent}
use Rattle.service_model.specs.declared.cert.Cert.{Cert}
use Rattle.service_model.specs.Net.{Net}
use Rattle.service_model.specs.Networks.{IsNetwork}
use Rattle.service_model.specs.Items.{items_of}
use Rattle.service_model.specs.Held.{none_held}
use Rattle.tree_order.specs.declared.forest.Forest.{Forest}
use Rattle.tree_order.specs.Forest.{IsForest}
use Rattle.search_laws.specs.Own.{AreRelaxed, AllHold}
use Rattle.search_laws.specs.Enough.{enough_of}

-- a search has no more nodes than are enough, whatever its budget
abbrev pub NodesLaw : Type 0
NodesLaw = (n : Net) (f : Forest) (c : Cert) → IsNetwork n → IsForest (length n.stages) n.arcs f → AllHold n none_held (items_of c) → AreRelaxed n f c
    → length c.nodes ≤ enough_of n f

-- a search is spent only where its budget, which may be any number, is less than enough
abbrev pub EnoughLaw : Type 0
EnoughLaw = (n : Net) (f : Forest) (c : Cert) → IsNetwork n → IsForest (length n.stages) n.arcs f → AllHold n none_held (items_of c) → AreRelaxed n f c
    → c.verdict.outcome ≡ Spent → c.head.budget < enough_of n f

-- where the forest drops no arc, one node is enough
abbrev pub TreeEnoughLaw : Type 0
TreeEnoughLaw = (n : Net) (f : Forest) → f.dropped ≡ [] → enough_of n f ≡ 1
