-- The arcs that lead to a stage bring its inputs.
use Rattle.std.proofs.Common.{◌≡◌, ℕ, zero, suc, ◌+◌, ◌<◌, ◌==◌, Bool, true, false, cond, List, [], ◌∷◌, ◌++◌, length, get_or, set, take, refl, sym, ap, ◌∙◌, arith}
use Rattle.std.specs.Prelude.{max, All}
use Rattle.std.specs.List.{AllByRecursion}
use Rattle.std.proofs.lemmas.Bool.{eqb-true}
use Rattle.std.proofs.lemmas.List.{length-set, append-nil, get_or_read}
use Rattle.std.proofs.lemmas.List.Elements.{All-from_recursion}
use Rattle.service_model.specs.declared.stage.SupplyArc.{SupplyArc}
use Rattle.service_model.specs.declared.plan.Plan.{Plan}
use Rattle.service_model.specs.Net.{Net, net_of, arc_in}
use Rattle.service_model.specs.Plans.{HasTimes}
use Rattle.service_model.specs.Networks.{IsNetwork}
use Rattle.service_model.specs.Repairs.{latest_arrival}
use Rattle.end_rules.specs.Inputs.{arcs_to, HasInputs, IsEarly, latest_input}
use Rattle.end_rules.specs.Shifts.{KeepsMost}
use Rattle.end_rules.proofs.StepFacts.{set_step}
use Rattle.end_rules.proofs.TimeFacts.{max-max}

-- ---- one more arc in the lists
grown : (here : Bool) (a : SupplyArc) (arcs more : List SupplyArc) → cond here (a ∷ (arcs ++ more)) (arcs ++ more) ≡ cond here (a ∷ arcs) arcs ++ more
grown true a arcs more = refl
grown false a arcs more = refl

arcs_to_more : (arcs : List SupplyArc) (j k : ℕ) → k < length arcs
    → arcs_to (take (suc k) arcs) j ≡ arcs_to (take k arcs) j ++ cond ((arc_in arcs k).customer == j) (arc_in arcs k ∷ []) []
arcs_to_more [] j k within = absurd (omega arith)
arcs_to_more (a ∷ arcs) j zero within = refl
arcs_to_more (a ∷ arcs) j (suc k) within =
    ap (λ rest. cond (a.customer == j) (a ∷ rest) rest) (arcs_to_more arcs j k (omega arith))
    ∙ grown (a.customer == j) a (arcs_to (take k arcs) j) (cond ((arc_in arcs k).customer == j) (arc_in arcs k ∷ []) [])

added : (here : Bool) (a : SupplyArc) (arcs : List SupplyArc) → cond here (arcs ++ a ∷ []) arcs ≡ arcs ++ cond here (a ∷ []) []
added true a arcs = refl
added false a arcs = sym (append-nil arcs)

pub inputs_more : (n : Net) (k : ℕ) (lists : List (List SupplyArc)) (row : List SupplyArc) → k < length n.arcs → (arc_in n.arcs k).customer < length lists
    → HasInputs (net_of n.horizon n.stages (take k n.arcs)) lists → row ≡ get_or lists (arc_in n.arcs k).customer [] ++ arc_in n.arcs k ∷ []
    → HasInputs (net_of n.horizon n.stages (take (suc k) n.arcs)) (set lists (arc_in n.arcs k).customer row)
inputs_more n k lists row within there known is = record {
  long = length-set lists _ row ∙ known.long;
  each = λ j stage.
      let a = arc_in n.arcs k in
      ap (λ (xs : List SupplyArc). get_or (set lists a.customer xs) j []) is
      ∙ set_step lists [] a.customer j (λ xs. xs ++ a ∷ []) (a.customer == j) refl there
      ∙ ap (λ xs. cond (a.customer == j) (xs ++ a ∷ []) xs) (known.each j stage)
      ∙ added (a.customer == j) a (arcs_to (take k n.arcs) j)
      ∙ sym (arcs_to_more n.arcs j k within);
}

-- ---- one more arc brings its input
pub latest_input_more : (arcs : List SupplyArc) (outbound : List ℕ) (time k : ℕ) → k < length arcs
    → latest_input (take (suc k) arcs) outbound time ≡ max (get_or outbound (arc_in arcs k).supplier 0 + (arc_in arcs k).transit) (latest_input (take k arcs) outbound time)
latest_input_more [] outbound time k within = absurd (omega arith)
latest_input_more (a ∷ arcs) outbound time zero within = refl
latest_input_more (a ∷ arcs) outbound time (suc k) within =
    ap (max (get_or outbound a.supplier 0 + a.transit)) (latest_input_more arcs outbound time k (omega arith))
    ∙ max-max (get_or outbound a.supplier 0 + a.transit) (get_or outbound (arc_in arcs k).supplier 0 + (arc_in arcs k).transit) (latest_input (take k arcs) outbound time)

-- ---- all arcs, or those to the stage
counted : (here : Bool) (a : SupplyArc) (arcs : List SupplyArc) (outbound : List ℕ) (time : ℕ)
    → latest_input (cond here (a ∷ arcs) arcs) outbound time
    ≡ cond here (max (get_or outbound a.supplier 0 + a.transit) (latest_input arcs outbound time)) (latest_input arcs outbound time)
counted true a arcs outbound time = refl
counted false a arcs outbound time = refl

pub input_is_arrival : (arcs : List SupplyArc) (p : Plan) (j time : ℕ) → latest_input (arcs_to arcs j) p.outbound time ≡ latest_arrival arcs p j time
input_is_arrival [] p j time = refl
input_is_arrival (a ∷ arcs) p j time =
    counted (a.customer == j) a (arcs_to arcs j) p.outbound time
    ∙ ap (λ latest. cond (a.customer == j) (max (get_or p.outbound a.supplier 0 + a.transit) latest) latest) (input_is_arrival arcs p j time)

-- where the suppliers quote the same, the inputs come at the same time
pub inputs_agree : (arcs : List SupplyArc) (outbound outbound' : List ℕ) (time : ℕ)
    → AllByRecursion (λ a. get_or outbound' a.supplier 0 ≡ get_or outbound a.supplier 0) arcs → latest_input arcs outbound' time ≡ latest_input arcs outbound time
inputs_agree [] outbound outbound' time same = refl
inputs_agree (a ∷ arcs) outbound outbound' time same =
    ap (λ x. max (x + a.transit) (latest_input arcs outbound' time)) same.0
    ∙ ap (max (get_or outbound a.supplier 0 + a.transit)) (inputs_agree arcs outbound outbound' time same.1)

-- what holds of each arc to the stage holds of all in its list
if_here : (P : SupplyArc → Type 0) (a : SupplyArc) (arcs : List SupplyArc) (here : Bool) → (here ≡ true → P a) → AllByRecursion P arcs
    → AllByRecursion P (cond here (a ∷ arcs) arcs)
if_here P a arcs true holds rest = (holds refl, rest)
if_here P a arcs false holds rest = rest

pub each_to : (P : SupplyArc → Type 0) (arcs : List SupplyArc) (j : ℕ)
    → ((a : ℕ) → a < length arcs → (arc_in arcs a).customer ≡ j → P (arc_in arcs a)) → AllByRecursion P (arcs_to arcs j)
each_to P [] j each = tt
each_to P (a ∷ arcs) j each =
    if_here P a (arcs_to arcs j) (a.customer == j) (λ is. each 0 (omega arith) (eqb-true a.customer j is))
    (each_to P arcs j (λ k within to. each (suc k) (omega (arith, within)) to))

-- inputs come early where no stage quotes more than it may
pub inputs_early : (n : Net) (p : Plan) (j : ℕ) → IsNetwork n → HasTimes n p → KeepsMost n p
    → All (IsEarly p.outbound) (arcs_to n.arcs j)
inputs_early n p j valid times most =
    All-from_recursion (IsEarly p.outbound) (arcs_to n.arcs j)
    (each_to (IsEarly p.outbound) n.arcs j
    (λ a within to.
    let arc = valid.arcs a within in
    let stage = valid.stages (arc_in n.arcs a).supplier arc.supplier in
    record {
      there = omega (arith, arc.supplier, times.outbound);
      quoted = omega (arith, most (arc_in n.arcs a).supplier arc.supplier, stage.most, valid.horizon);
      transit = arc.transit;
    }))

-- the list at a stage's place
pub inputs_at : (n : Net) (lists : List (List SupplyArc)) (j : ℕ) (row : List SupplyArc) → HasInputs n lists → j < length n.stages → row ≡ get_or lists j row
    → row ≡ arcs_to n.arcs j
inputs_at n lists j row are stage is = get_or_read lists j row (omega (arith, are.long)) is [] ∙ are.each j stage
