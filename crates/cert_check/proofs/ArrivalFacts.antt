-- What came, and a node or a split more, or nothing.
use Rattle.std.proofs.Common.{◌≡◌, ◌≢◌, ℕ, List, length, sym, subst, inl, ⊎_elim}
use Rattle.std.specs.Prelude.{◌⊎◌, ◌↔◌, Contains}
use Rattle.service_model.specs.declared.cert.Node.{Node}
use Rattle.service_model.specs.declared.cert.Item.TheVariants.{Node as NodeItem}
use Rattle.service_model.specs.Held.{held_with}
use Rattle.split_rules.specs.declared.leaves.Leaf.{Leaf}
use Rattle.cert_check.specs.Arrivals.{Arrivals, IsNodeMore, IsUnchanged}

pub all_same : (old new : Arrivals) → new.held ≡ old.held → new.halves ≡ old.halves → new.leaves ≡ old.leaves → IsUnchanged old new
all_same old new held halves leaves = record {
  held = held;
  halves = halves;
  leaves = λ q. (λ inside. subst (λ (xs : List Leaf). Contains xs q) leaves inside, λ inside. subst (λ (xs : List Leaf). Contains xs q) (sym leaves) inside);
}

-- a leaf that was put in and taken out again
pub taken_out : (old new : Arrivals) (between : List Leaf) (leaf : Leaf) → new.held ≡ old.held → new.halves ≡ old.halves
    → ((q : Leaf) → Contains between q ↔ (Contains old.leaves q ⊎ (q ≡ leaf))) → ((q : Leaf) → Contains new.leaves q ↔ (Contains between q × (q ≢ leaf)))
    → (Contains old.leaves leaf → ⊥) → IsUnchanged old new
taken_out old new between leaf held halves put taken fresh = record {
  held = held;
  halves = halves;
  leaves = λ q. (
    λ inside. let was = (taken q).0 inside in ⊎_elim (λ old. old) (λ is. absurd (was.1 is)) ((put q).0 was.0),
    λ inside. (taken q).1 ((put q).1 (inl inside), λ is. fresh (subst (Contains old.leaves) is inside)),
  );
}

pub node_put_in : (old new : Arrivals) (x : Node) (bound number : ℕ) → number ≡ length old.held.nodes → new.held ≡ held_with old.held (NodeItem x)
    → new.halves ≡ old.halves → ((q : Leaf) → Contains new.leaves q ↔ (Contains old.leaves q ⊎ (q ≡ record { bound = bound; node = number })))
    → IsNodeMore old new x bound
node_put_in old new x bound number last held halves leaves = record {
  held = held;
  halves = halves;
  leaves = subst (λ (k : ℕ). (q : Leaf) → Contains new.leaves q ↔ (Contains old.leaves q ⊎ (q ≡ record { bound = bound; node = k }))) last leaves;
}
