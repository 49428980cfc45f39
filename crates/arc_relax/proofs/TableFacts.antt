-- The tables of stages, and plans within them.
use Rattle.std.proofs.Common.{◌≡◌, ℕ, ◌+◌, ◌<◌, ◌≤◌, List, [], length, get_or, sym, ap, ◌∙◌, subst, inl, inr, ⊎_elim, arith}
use Rattle.std.specs.Prelude.{Contains, ◌⊎◌}
use Rattle.std.proofs.lemmas.List.Elements.{All-contains}
use Rattle.service_model.specs.declared.limits.TheConstants.{INF}
use Rattle.service_model.specs.declared.stage.SupplyArc.{SupplyArc}
use Rattle.service_model.specs.declared.plan.Plan.{Plan}
use Rattle.service_model.specs.declared.range.Range.{Range}
use Rattle.service_model.specs.declared.table.Kind.{Kind}
use Rattle.service_model.specs.declared.table.Kind.TheVariants.{Down, Up, Root}
use Rattle.service_model.specs.declared.table.Table.{Table}
use Rattle.service_model.specs.Net.{Net, arc_in}
use Rattle.service_model.specs.Plans.{Meets, inbound_at, outbound_at, stage_cost}
use Rattle.service_model.specs.Walks.{Leads}
use Rattle.service_model.specs.Networks.{IsNetwork}
use Rattle.service_model.specs.Tables.{transit_in, IsChild}
use Rattle.service_model.specs.Nodes.{Holds, MeetsChild}
use Rattle.service_model.specs.Forests.{IsChildOf, IsKept}
use Rattle.service_model.specs.Relaxed.{FitsRange, IsKindOf, IsTableOf}
use Rattle.service_model.proofs.ArcFacts.{supplies_from_leads, transit_in-arc}
use Rattle.tree_order.specs.declared.forest.Forest.{Forest}
use Rattle.tree_order.specs.Forest.{IsForest}

-- the children in a stage's list are stages, and its children
pub child_stage : (stages : ℕ) (arcs : List SupplyArc) (f : Forest) → IsForest stages arcs f → (j c : ℕ) → j < stages → Contains (get_or f.children j []) c → c < stages
child_stage stages arcs f forest j c low inside = All-contains (λ i. i < stages) (get_or f.children j []) c (forest.children.each j low).low inside

pub child_own : (stages : ℕ) (arcs : List SupplyArc) (f : Forest) → IsForest stages arcs f → (j c : ℕ) → j < stages → Contains (get_or f.children j []) c → IsChildOf f.parent j c
child_own stages arcs f forest j c low inside = (forest.children.each j low).only c inside

-- a table of a child may be a child of one of its parent
pub kind_child : (arcs : List SupplyArc) (parent : List ℕ) (j c : ℕ) (kind : Kind) → IsKindOf arcs parent c kind → IsChildOf parent j c → IsChild kind arcs c j
kind_child arcs parent j c Down is child = supplies_from_leads arcs c j (subst (λ i. Leads arcs c i) child.0 is.1)
kind_child arcs parent j c Up is child = supplies_from_leads arcs j c (subst (λ i. Leads arcs i c) child.0 is.1)
kind_child arcs parent j c Root is child = child.1 (sym child.0 ∙ is)

-- plans that meet the kept arcs meet those between tables

-- the plan meets each arc between a parent and its child
abbrev pub MeetsKept : Net → List ℕ → Plan → Type 0
MeetsKept n parent p = (a : ℕ) → a < length n.arcs → IsKept parent (arc_in n.arcs a) → Meets p (arc_in n.arcs a)

kept_met : (n : Net) (parent : List ℕ) (p : Plan) (i j : ℕ) → IsNetwork n → MeetsKept n parent p → Leads n.arcs i j
    → (get_or parent i 0 ≡ j) ⊎ (get_or parent j 0 ≡ i) → outbound_at p i + transit_in n.arcs i j ≤ inbound_at p j
kept_met n parent p i j valid met (a, within, from, to) joined =
    let arc = arc_in n.arcs a in
    let kept : IsKept parent arc = ⊎_elim
    (λ up. inl (ap (λ x. get_or parent x 0) from ∙ up ∙ sym to))
    (λ down. inr (ap (λ x. get_or parent x 0) to ∙ down ∙ sym from))
    joined in
    let here : outbound_at p arc.supplier + arc.transit ≤ inbound_at p arc.customer = met a within kept in
    let way : transit_in n.arcs arc.supplier arc.customer ≡ arc.transit = transit_in-arc n a valid within in
    let same : transit_in n.arcs arc.supplier arc.customer ≡ transit_in n.arcs i j = ap (λ x. transit_in n.arcs x arc.customer) from ∙ ap (transit_in n.arcs i) to in
    omega (arith, here, way, same, ap (outbound_at p) from, ap (inbound_at p) to)

pub child_met : (n : Net) (parent : List ℕ) (p : Plan) (j c : ℕ) (kind : Kind) → IsNetwork n → MeetsKept n parent p → IsKindOf n.arcs parent c kind → IsChildOf parent j c
    → MeetsChild kind n.arcs p c j
child_met n parent p j c Down valid met is child = kept_met n parent p c j valid met (subst (λ i. Leads n.arcs c i) child.0 is.1) (inl child.0)
child_met n parent p j c Up valid met is child = kept_met n parent p j c valid met (subst (λ i. Leads n.arcs i c) child.0 is.1) (inr child.0)
child_met n parent p j c Root valid met is child = child.1 (sym child.0 ∙ is)

-- a plan's times within a table, and in the range

pub holds_from_fits : (n : Net) (r : Range) (parent : List ℕ) (lists : List (List ℕ)) (numbers : List ℕ) (j : ℕ) (t : Table) (p : Plan) → IsTableOf n r parent lists numbers j t
    → FitsRange n r p j → Holds n p t
holds_from_fits n r parent lists numbers j t p own fits =
    let out : outbound_at p t.stage ≡ outbound_at p j = ap (outbound_at p) own.stage in
    let in' : inbound_at p t.stage ≡ inbound_at p j = ap (inbound_at p) own.stage in
    record {
      not_early = omega (arith, out, own.least, fits.not_early);
      not_late = omega (arith, out, own.most, fits.not_late);
      not_below = omega (arith, in', own.floor, fits.not_below);
      not_above = omega (arith, in', fits.not_above);
    }

pub fits_from_holds : (n : Net) (r : Range) (parent : List ℕ) (lists : List (List ℕ)) (numbers : List ℕ) (j : ℕ) (t : Table) (p : Plan) → IsTableOf n r parent lists numbers j t
    → Holds n p t → stage_cost n p j < INF → FitsRange n r p j
fits_from_holds n r parent lists numbers j t p own holds allowed =
    let out : outbound_at p t.stage ≡ outbound_at p j = ap (outbound_at p) own.stage in
    let in' : inbound_at p t.stage ≡ inbound_at p j = ap (inbound_at p) own.stage in
    record {
      not_early = omega (arith, out, own.least, holds.not_early);
      not_late = omega (arith, out, own.most, holds.not_late);
      not_below = omega (arith, in', own.floor, holds.not_below);
      not_above = omega (arith, in', holds.not_above);
      allowed = allowed;
    }
