-- Stages that arcs of a kind join, one after the other.
use Rattle.std.proofs.Common.{ℕ, zero, suc, ◌<◌, List, length, refl, sym, subst, inl, inr}
use Rattle.std.specs.Prelude.{◌↔◌}
use Rattle.service_model.specs.declared.stage.SupplyArc.{SupplyArc}
use Rattle.service_model.specs.Net.{arc_in}
use Rattle.service_model.specs.Forests.{Joins}
use Rattle.cluster_split.specs.Clusters.{JoinedBy}

-- arcs of which P holds join two stages
abbrev pub Linked : (ℕ → Type 0) → List SupplyArc → ℕ → ℕ → Type 0
Linked P arcs x y = (n : ℕ) × JoinedBy P arcs x y n

-- one arc of which P holds joins two stages
abbrev pub LinksOne : (ℕ → Type 0) → List SupplyArc → ℕ → ℕ → Type 0
LinksOne P arcs x y = (a : ℕ) × (a < length arcs) × P a × Joins (arc_in arcs a) x y

pub joins_back : (a : SupplyArc) (x y : ℕ) → Joins a x y → Joins a y x
joins_back a x y (inl there) = inr there
joins_back a x y (inr back) = inl back

one_back : (P : ℕ → Type 0) (arcs : List SupplyArc) (x y : ℕ) → LinksOne P arcs x y → LinksOne P arcs y x
one_back P arcs x y (a, inside, p, joins) = (a, inside, p, joins_back (arc_in arcs a) x y joins)

pub linked_one : (P : ℕ → Type 0) (arcs : List SupplyArc) (x y : ℕ) → LinksOne P arcs x y → Linked P arcs x y
linked_one P arcs x y one = (1, (x, refl, one))

linked_step : (P : ℕ → Type 0) (arcs : List SupplyArc) (x m y : ℕ) → Linked P arcs x m → LinksOne P arcs m y → Linked P arcs x y
linked_step P arcs x m y (n, chain) one = (suc n, (m, chain, one))

pub linked_trans : (P : ℕ → Type 0) (arcs : List SupplyArc) (x m y : ℕ) → Linked P arcs x m → Linked P arcs m y → Linked P arcs x y
linked_trans P arcs x m y first (zero, same) = subst (λ v. Linked P arcs x v) same first
linked_trans P arcs x m y first (suc n, (k, chain, one)) = linked_step P arcs x k y (linked_trans P arcs x m k first (n, chain)) one

pub linked_back : (P : ℕ → Type 0) (arcs : List SupplyArc) (x y : ℕ) → Linked P arcs x y → Linked P arcs y x
linked_back P arcs x y (zero, same) = (0, sym same)
linked_back P arcs x y (suc n, (m, chain, one)) =
    linked_trans P arcs y m x (linked_one P arcs y m (one_back P arcs m y one)) (linked_back P arcs x m (n, chain))

-- by arcs of a wider kind
pub joined_as : (P Q : ℕ → Type 0) (arcs : List SupplyArc) → ((a : ℕ) → P a → Q a) → (n x y : ℕ) → JoinedBy P arcs x y n → JoinedBy Q arcs x y n
joined_as P Q arcs wider zero x y same = same
joined_as P Q arcs wider (suc n) x y (m, chain, (a, inside, p, joins)) = (m, joined_as P Q arcs wider n x m chain, (a, inside, wider a p, joins))

-- what holds of both ends of each such arc or of none goes on from stage to stage

pub across : (C : ℕ → Type 0) (a : SupplyArc) (x y : ℕ) → (C a.supplier ↔ C a.customer) → Joins a x y → C x → C y
across C a x y both (inl ends) h = subst C ends.1 (both.0 (subst C (sym ends.0) h))
across C a x y both (inr ends) h = subst C ends.0 (both.1 (subst C (sym ends.1) h))

pub across_all : (C : ℕ → Type 0) (P : ℕ → Type 0) (arcs : List SupplyArc) → ((a : ℕ) → a < length arcs → P a → C (arc_in arcs a).supplier ↔ C (arc_in arcs a).customer)
    → (n x y : ℕ) → JoinedBy P arcs x y n → C x → C y
across_all C P arcs each zero x y same h = subst C same h
across_all C P arcs each (suc n) x y (m, chain, (a, inside, p, joins)) h =
    across C (arc_in arcs a) m y (each a inside p) joins (across_all C P arcs each n x m chain h)
