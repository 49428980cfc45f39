-- Arcs of records as arcs of the model, as they are and turned round.
use Rattle.std.proofs.Common.{ℕ, ◌≡◌, ◌<◌, ◌==◌, true, List, length, get_or, map, sym, ap, ◌∙◌, subst, arith}
use Rattle.std.specs.Prelude.{All}
use Rattle.std.proofs.lemmas.Bool.{eqb-true}
use Rattle.std.proofs.lemmas.List.{length-map, get_or-map}
use Rattle.std.proofs.lemmas.List.Elements.{All-map, All-filter, filter_passes}
use Rattle.service_model.specs.declared.stage.SupplyArc.{SupplyArc}
use Rattle.service_model.specs.Net.{no_arc}
use Rattle.service_model.specs.Walks.{Leads}
use Rattle.service_model.specs.Customers.{HasEnds}
use Rattle.stage_file.specs.declared.arcs.ArcRow.{ArcRow}
use Rattle.demand_tables.specs.Demand.{arcs_from}
use Rattle.demand_tables.specs.DemandFaults.{supply_arc, turned}
use Rattle.demand_tables.specs.DemandNet.{JoinsStages}

-- what stands for an arc that there is not
abbrev pub no_arc_row : ArcRow
no_arc_row = record { supplier = 0; customer = 0; quantity = 0; transit = 0; row = 0 }

pub supply_ends : (stages : ℕ) (arcs : List ArcRow) → All (JoinsStages stages) arcs → HasEnds stages (map supply_arc arcs)
supply_ends stages arcs within =
    All-map (λ (a : SupplyArc). (a.supplier < stages) × (a.customer < stages)) supply_arc arcs (λ k d inside. ((within k d inside).supplier, (within k d inside).customer))

pub turned_ends : (stages : ℕ) (arcs : List ArcRow) → All (JoinsStages stages) arcs → HasEnds stages (map turned arcs)
turned_ends stages arcs within =
    All-map (λ (a : SupplyArc). (a.supplier < stages) × (a.customer < stages)) turned arcs (λ k d inside. ((within k d inside).customer, (within k d inside).supplier))

-- each arc leads from its supplier to its customer
supply_lead : (arcs : List ArcRow) (k : ℕ) (d : ArcRow) → k < length arcs → Leads (map supply_arc arcs) (get_or arcs k d).supplier (get_or arcs k d).customer
supply_lead arcs k d inside =
    let is = get_or-map supply_arc arcs k d no_arc inside in
    (k, omega (arith, inside, length-map arcs supply_arc), ap (λ (a : SupplyArc). a.supplier) is, ap (λ (a : SupplyArc). a.customer) is)

-- and turned round from its customer to its supplier
turned_lead : (arcs : List ArcRow) (k : ℕ) (d : ArcRow) → k < length arcs → Leads (map turned arcs) (get_or arcs k d).customer (get_or arcs k d).supplier
turned_lead arcs k d inside =
    let is = get_or-map turned arcs k d no_arc inside in
    (k, omega (arith, inside, length-map arcs turned), ap (λ (a : SupplyArc). a.supplier) is, ap (λ (a : SupplyArc). a.customer) is)

-- an arc turned round twice leads as before
pub turn_back : (arcs : List ArcRow) (i j : ℕ) → Leads (map turned arcs) i j → Leads (map supply_arc arcs) j i
turn_back arcs i j (k, inside, from, to) =
    let low : k < length arcs = omega (arith, inside, length-map arcs turned) in
    let is = get_or-map turned arcs k no_arc_row no_arc low in
    let customer : (get_or arcs k no_arc_row).customer ≡ i = sym (ap (λ (a : SupplyArc). a.supplier) is) ∙ from in
    let supplier : (get_or arcs k no_arc_row).supplier ≡ j = sym (ap (λ (a : SupplyArc). a.customer) is) ∙ to in
    subst (λ c. Leads (map supply_arc arcs) j c) customer (subst (λ s. Leads (map supply_arc arcs) s (get_or arcs k no_arc_row).customer) supplier (supply_lead arcs k no_arc_row low))

-- what holds of each arc from a stage
all_from : (arcs : List ArcRow) (j : ℕ) (Q : ArcRow → Type 0) → ((k : ℕ) (d : ArcRow) → k < length arcs → (get_or arcs k d).supplier ≡ j → Q (get_or arcs k d)) → All Q (arcs_from arcs j)
all_from arcs j Q each =
    let both = All-filter (λ (a : ArcRow). a.supplier == j) (λ (a : ArcRow). (a.supplier == j) ≡ true → Q a) arcs (λ k d inside is. each k d inside (eqb-true (get_or arcs k d).supplier j is)) in
    λ k d inside. both k d inside (filter_passes (λ (a : ArcRow). a.supplier == j) arcs k d inside)

-- what holds of each customer of a stage holds of the customer on each arc from it
pub each_customer : (arcs : List ArcRow) (j : ℕ) (P : ℕ → Type 0) → ((c : ℕ) → Leads (map supply_arc arcs) j c → P c) → All (λ a. P a.customer) (arcs_from arcs j)
each_customer arcs j P each =
    all_from arcs j (λ a. P a.customer) (λ k d inside from. each (get_or arcs k d).customer (subst (λ s. Leads (map supply_arc arcs) s (get_or arcs k d).customer) from (supply_lead arcs k d inside)))

-- the same, where the customers come first
pub each_before : (arcs : List ArcRow) (j : ℕ) (P : ℕ → Type 0) → ((c : ℕ) → Leads (map turned arcs) c j → P c) → All (λ a. P a.customer) (arcs_from arcs j)
each_before arcs j P each =
    all_from arcs j (λ a. P a.customer) (λ k d inside from. each (get_or arcs k d).customer (subst (λ s. Leads (map turned arcs) (get_or arcs k d).customer s) from (turned_lead arcs k d inside)))
