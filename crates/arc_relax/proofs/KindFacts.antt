-- The kinds of tables, marked arc by arc.
use Rattle.std.proofs.Common.{◌≡◌, ◌≢◌, ℕ, ◌+◌, ◌<◌, ◌≤◌, ◌==◌, Bool, true, false, cond, List, length, get_or, set, refl, sym, ap, ◌∙◌, subst, inl, inr, ⊎_elim, arith}
use Rattle.std.specs.Prelude.{◌⊎◌}
use Rattle.std.proofs.lemmas.Bool.{cases_eq, cases_lt, eq-eqb, eqb-true}
use Rattle.std.proofs.lemmas.List.{length-set, get_or-set_same, get_or-set_other}
use Rattle.service_model.specs.declared.stage.SupplyArc.{SupplyArc}
use Rattle.service_model.specs.declared.table.Kind.{Kind}
use Rattle.service_model.specs.declared.table.Kind.TheVariants.{Down, Up, Root}
use Rattle.service_model.specs.Net.{Net, arc_in}
use Rattle.service_model.specs.Walks.{Leads}
use Rattle.service_model.specs.Networks.{ArcWithin}
use Rattle.service_model.specs.Relaxed.{IsKindOf}
use Rattle.tree_order.specs.declared.forest.Forest.{Forest}
use Rattle.tree_order.specs.Forest.{IsForest}
use Rattle.tree_order.proofs.ForestLaws.{child_joined}
use Rattle.arc_relax.specs.Kinds.{kind_at, AreKinds, AreMarked}

-- one entry is set, or none
set_length : (kinds kinds' : List Kind) (b : Bool) (s : ℕ) (v : Kind) → kinds' ≡ cond b (set kinds s v) kinds → length kinds' ≡ length kinds
set_length kinds kinds' true s v is = ap length is ∙ length-set kinds s v
set_length kinds kinds' false s v is = ap length is

set_cases : (kinds kinds' : List Kind) (b : Bool) (s : ℕ) (v : Kind) → s < length kinds → kinds' ≡ cond b (set kinds s v) kinds
    → (j : ℕ) → (kind_at kinds' j ≡ kind_at kinds j) ⊎ ((b ≡ true) × (j ≡ s) × (kind_at kinds' j ≡ v))
set_cases kinds kinds' false s v low is j = inl (ap (λ (ks : List Kind). kind_at ks j) is)
set_cases kinds kinds' true s v low is j = ⊎_elim
    (λ here. inr (refl, here, ap (λ (ks : List Kind). kind_at ks j) is ∙ ap (kind_at (set kinds s v)) here ∙ get_or-set_same kinds s v Root low))
    (λ other. inl (ap (λ (ks : List Kind). kind_at ks j) is ∙ get_or-set_other kinds s j v Root other))
    (cases_eq j s)

set_done : (kinds kinds' : List Kind) (b : Bool) (s : ℕ) (v : Kind) → s < length kinds → kinds' ≡ cond b (set kinds s v) kinds → b ≡ true → kind_at kinds' s ≡ v
set_done kinds kinds' true s v low is on = ap (λ (ks : List Kind). kind_at ks s) is ∙ get_or-set_same kinds s v Root low
set_done kinds kinds' false s v low is on = cc

-- a kind other than Root stays one
set_keeps : (kinds kinds' : List Kind) (b : Bool) (s : ℕ) (v : Kind) → s < length kinds → kinds' ≡ cond b (set kinds s v) kinds → v ≢ Root
    → (j : ℕ) → kind_at kinds j ≢ Root → kind_at kinds' j ≢ Root
set_keeps kinds kinds' b s v low is some j was root = ⊎_elim
    (λ same. was (sym same ∙ root))
    (λ now. some (sym now.2 ∙ root))
    (set_cases kinds kinds' b s v low is j)

-- a kind other than Root is right
abbrev pub AreRight : List SupplyArc → List ℕ → List Kind → Type 0
AreRight arcs parent kinds = (j : ℕ) → j < length parent → (kind_at kinds j ≡ Root) ⊎ IsKindOf arcs parent j (kind_at kinds j)

set_right : (arcs : List SupplyArc) (parent : List ℕ) (kinds kinds' : List Kind) (b : Bool) (s : ℕ) (v : Kind) → s < length kinds → kinds' ≡ cond b (set kinds s v) kinds
    → (b ≡ true → IsKindOf arcs parent s v) → AreRight arcs parent kinds → AreRight arcs parent kinds'
set_right arcs parent kinds kinds' b s v low is right was j stage = ⊎_elim
    (λ same. ⊎_elim
    (λ root. inl (same ∙ root))
    (λ kind. inr (subst (IsKindOf arcs parent j) (sym same) kind))
    (was j stage))
    (λ now. inr (subst (IsKindOf arcs parent j) (sym now.2) (subst (λ i. IsKindOf arcs parent i v) (sym now.1) (right now.0))))
    (set_cases kinds kinds' b s v low is j)

down_some : Down ≢ Root
down_some same = cc

up_some : Up ≢ Root
up_some same = cc

-- one more arc
pub marked_more : (arcs : List SupplyArc) (parent : List ℕ) (stages a : ℕ) (kinds mid kinds' : List Kind) → AreMarked arcs parent a kinds → a < length arcs
    → ArcWithin stages (arc_in arcs a) → length parent ≡ stages
    → mid ≡ cond (get_or parent (arc_in arcs a).supplier 0 == (arc_in arcs a).customer) (set kinds (arc_in arcs a).supplier Down) kinds
    → kinds' ≡ cond (get_or parent (arc_in arcs a).customer 0 == (arc_in arcs a).supplier) (set mid (arc_in arcs a).customer Up) mid
    → AreMarked arcs parent (a + 1) kinds'
marked_more arcs parent stages a kinds mid kinds' marked within ends long first second =
    let s = (arc_in arcs a).supplier in
    let c = (arc_in arcs a).customer in
    let down = get_or parent s 0 == c in
    let up = get_or parent c 0 == s in
    let s_low : s < length kinds = omega (arith, marked.long, long, ends.supplier) in
    let mid_long = set_length kinds mid down s Down first in
    let c_low : c < length mid = omega (arith, mid_long, marked.long, long, ends.customer) in
    let leads : Leads arcs s c = (a, within, refl, refl) in
    let is_down : down ≡ true → IsKindOf arcs parent s Down = λ on.
    let is = eqb-true (get_or parent s 0) c on in
    (λ same. ends.apart (sym same ∙ is), subst (Leads arcs s) (sym is) leads) in
    let is_up : up ≡ true → IsKindOf arcs parent c Up = λ on.
    let is = eqb-true (get_or parent c 0) s on in
    (λ same. ends.apart (sym is ∙ same), subst (λ i. Leads arcs i c) (sym is) leads) in
    record {
      long = set_length mid kinds' up c Up second ∙ mid_long ∙ marked.long;
      right = set_right arcs parent mid kinds' up c Up c_low second is_up (set_right arcs parent kinds mid down s Down s_low first is_down marked.right);
      suppliers = λ b low joined. ⊎_elim
          (λ less. set_keeps mid kinds' up c Up c_low second up_some _ (set_keeps kinds mid down s Down s_low first down_some _ (marked.suppliers b less joined)))
          (λ last.
          let here : b ≡ a = omega (arith, low, last) in
          subst (λ k. kind_at kinds' (arc_in arcs k).supplier ≢ Root) (sym here)
          (set_keeps mid kinds' up c Up c_low second up_some s
          (λ root. down_some (sym (set_done kinds mid down s Down s_low first
          (eq-eqb (get_or parent s 0) c (subst (λ k. get_or parent (arc_in arcs k).supplier 0 ≡ (arc_in arcs k).customer) here joined))) ∙ root))))
          (cases_lt b a);
      customers = λ b low joined. ⊎_elim
          (λ less. set_keeps mid kinds' up c Up c_low second up_some _ (set_keeps kinds mid down s Down s_low first down_some _ (marked.customers b less joined)))
          (λ last.
          let here : b ≡ a = omega (arith, low, last) in
          subst (λ k. kind_at kinds' (arc_in arcs k).customer ≢ Root) (sym here)
          (λ root. up_some (sym (set_done mid kinds' up c Up c_low second
          (eq-eqb (get_or parent c 0) s (subst (λ k. get_or parent (arc_in arcs k).customer 0 ≡ (arc_in arcs k).supplier) here joined))) ∙ root)))
          (cases_lt b a);
    }

-- after all arcs
pub marked_all : (n : Net) (f : Forest) (kinds : List Kind) (count : ℕ) → IsForest (length n.stages) n.arcs f → AreMarked n.arcs f.parent count kinds → length n.arcs ≤ count
    → AreKinds n.arcs f.parent kinds
marked_all n f kinds count forest marked done = record {
  long = marked.long;
  each = λ j stage. ⊎_elim
      (λ root. ⊎_elim
      (λ mine. subst (IsKindOf n.arcs f.parent j) (sym root) mine)
      (λ apart.
      let low : j < length n.stages = omega (arith, stage, forest.walk.long) in
      let joined = child_joined (length n.stages) n.arcs f forest (get_or f.parent j 0) j low (refl, apart) in
      let arc = arc_in n.arcs joined.0 in
      absurd (⊎_elim
      (λ back. marked.customers joined.0 (omega (arith, joined.1, done))
      (ap (λ i. get_or f.parent i 0) back.1 ∙ sym back.0)
      (ap (kind_at kinds) back.1 ∙ root))
      (λ there. marked.suppliers joined.0 (omega (arith, joined.1, done))
      (ap (λ i. get_or f.parent i 0) there.0 ∙ sym there.1)
      (ap (kind_at kinds) there.0 ∙ root))
      joined.2))
      (cases_eq (get_or f.parent j 0) j))
      (λ kind. kind)
      (marked.right j stage);
}
