-- The tables that are new with each node of a search.
use Rattle.std.proofs.Common.{◌≡◌, ℕ, zero, suc, ◌+◌, ◌*◌, ◌<◌, ◌≤◌, List, [], ◌∷◌, ◌++◌, length, refl, sym, ap, ◌∙◌, subst, arith}
use Rattle.std.specs.Prelude.{Contains}
use Rattle.std.proofs.lemmas.List.{length-append}
use Rattle.service_model.specs.declared.range.Range.{Range}
use Rattle.service_model.specs.declared.table.Table.{Table}
use Rattle.service_model.specs.declared.cert.Node.{Node}
use Rattle.service_model.specs.declared.cert.Cert.{Cert}
use Rattle.service_model.specs.Net.{Net}
use Rattle.service_model.specs.Nodes.{below_roots}
use Rattle.service_model.specs.Held.{no_node, node_at}
use Rattle.cert_laws.specs.Grown.{IsWhole}
use Rattle.tree_order.specs.declared.forest.Forest.{Forest}
use Rattle.tree_order.specs.Forest.{IsForest}
use Rattle.arc_relax.specs.StageTables.{StandInOrder}
use Rattle.arc_relax.proofs.MadeFacts.{stand_still}
use Rattle.range_nodes.specs.declared.made.Made.{Made}
use Rattle.range_nodes.specs.Nodes.{AreSearched, IsRangeNode, IsMade}
use Rattle.range_nodes.proofs.NodeFacts.{stage_below}
use Rattle.range_nodes.proofs.StayFacts.{below_stays}
use Rattle.search_laws.specs.Own.{seen_before, AreInTurn}
use Rattle.range_branch.proofs.TwoMoreFacts.{old_at, left_at}

-- the tables from one number up to another are tables of the node, and stand in the forest's order
pub record AreNew (f : Forest) (tables : List Table) (from to : ℕ) (x : Node) : Type 0 where
  pub later : from ≤ to
  pub used : (i : ℕ) → from ≤ i → i < to → Contains (below_roots tables x.roots) i
  pub order : StandInOrder f.order tables from to

-- the tables that are new with a node are so
pub made_new : (n : Net) (f : Forest) (r : Range) (old new : List Table) (count count' : ℕ) (m : Made) → IsForest (length n.stages) n.arcs f
    → IsMade n f r old new count count' m → AreNew f new (length old) (length new) m.node
made_new n f r old new count count' m forest made =
    let long : length new ≡ length (old ++ made.longer.0) = ap (λ (ts : List Table). length ts) made.longer.1 in
    record {
      later = omega (arith, long, length-append old made.longer.0);
      used = λ i late early.
          let at = made.fresh i late early in
          subst (λ k. Contains (below_roots new m.node.roots) k) at.2 (stage_below n f new r m.node at.0 forest made.node at.1);
      order = made.turns;
    }

-- and stay so, as others come behind
pub new_stay : (n : Net) (f : Forest) (tables more : List Table) (r : Range) (x : Node) (from to : ℕ) → AreSearched n (tables ++ more)
    → IsRangeNode n f tables r x → to ≤ length tables → AreNew f tables from to x → AreNew f (tables ++ more) from to x
new_stay n f tables more r x from to searched node there is = record {
  later = is.later;
  used = λ i late early. subst (λ (ks : List ℕ). Contains ks i) (sym (below_stays n tables more x.roots searched node.there)) (is.used i late early);
  order = stand_still f.order tables more from to there is.order;
}

-- a node with its new tables comes in turn
pub in_turn : (f : Forest) (c : Cert) (k from to : ℕ) (x : Node) → seen_before c.nodes k ≡ from → node_at c.nodes k ≡ x → x.seen ≡ to
    → AreNew f c.tables from to x → AreInTurn f c k
in_turn f c k from to x before here seen is =
    let last : (node_at c.nodes k).seen ≡ to = ap (λ (y : Node). y.seen) here ∙ seen in
    let later = is.later in
    record {
      later = omega (arith, before, last, later);
      used = λ i late early.
          subst (λ (y : Node). Contains (below_roots c.tables y.roots) i) (sym here) (is.used i (omega (arith, late, before)) (omega (arith, early, last)));
      order = λ i m late less early. is.order i m (omega (arith, late, before)) less (omega (arith, early, last));
    }

-- and the other way round
pub new_in_turn : (f : Forest) (c : Cert) (k : ℕ) → AreInTurn f c k → AreNew f c.tables (seen_before c.nodes k) (node_at c.nodes k).seen (node_at c.nodes k)
new_in_turn f c k is = record { later = is.later; used = is.used; order = is.order }

-- the tables before a next node are all that there are
pub last_seen : (c : Cert) → IsWhole c → seen_before c.nodes (length c.nodes) ≡ length c.tables
last_seen c whole =
    let nodes = whole.nodes in
    let place : length c.nodes ≡ suc (2 * length c.splits) = omega (arith, nodes) in
    ap (seen_before c.nodes) place ∙ whole.last

-- how many tables came before an old node, or the second of two more
pub seen_before-old : (xs : List Node) (y z : Node) (k : ℕ) → k ≤ length xs → seen_before ((xs ++ y ∷ []) ++ z ∷ []) k ≡ seen_before xs k
seen_before-old xs y z zero low = refl
seen_before-old xs y z (suc k) low = ap (λ (w : Node). w.seen) (old_at xs y z no_node k (omega (arith, low)))

pub seen_before-right : (xs : List Node) (y z : Node) (k : ℕ) → length xs + 1 ≡ k → seen_before ((xs ++ y ∷ []) ++ z ∷ []) k ≡ y.seen
seen_before-right xs y z k at =
    let place : k ≡ suc (length xs) = omega (arith, at) in
    ap (seen_before ((xs ++ y ∷ []) ++ z ∷ [])) place ∙ ap (λ (w : Node). w.seen) (left_at xs y z no_node (length xs) refl)
