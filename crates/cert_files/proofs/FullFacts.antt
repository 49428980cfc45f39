-- A search is spent only where two further ranges would pass its budget.
use Rattle.std.proofs.Common.{◌≡◌, ◌<◌, ℕ, ◌+◌, [], ◌∷◌, length, Option, Result, Ok, Err, subst, arith}
use Rattle.std.specs.Prelude.{IfOk}
use Rattle.std.proofs.lemmas.List.{length-map}
use Rattle.service_model.specs.declared.cert_rules.TheConstants.{VERDICT}
use Rattle.service_model.specs.declared.plan.Plan.{Plan}
use Rattle.service_model.specs.declared.cert.Node.{Node}
use Rattle.service_model.specs.declared.cert.Cert.{Cert}
use Rattle.service_model.specs.declared.cert.Outcome.{Outcome}
use Rattle.service_model.specs.declared.cert.Outcome.TheVariants as outcome
use Rattle.service_model.specs.declared.cert.Item.TheVariants.{Head as HeadItem, End as EndItem}
use Rattle.service_model.specs.Net.{Net}
use Rattle.service_model.specs.Verdicts.{EndsWith}
use Rattle.service_model.specs.Items.{items_from, items_of}
use Rattle.service_model.specs.Held.{Held, none_held}
use Rattle.service_model.specs.CertRules.{EndsAsTold}
use Rattle.service_model.specs.Certs.{AllKeep}
use Rattle.cert_laws.proofs.KeptFacts.{AllKeep-parts}
use Rattle.tree_order.specs.declared.forest.Forest.{Forest}
use Rattle.search_laws.specs.Own.{IsOwn}
use Rattle.search_laws.proofs.ShownFacts.{shown_after}

full_as : (o : Outcome) (n : Net) (found : Option Plan) (least nodes budget bound : ℕ) → o ≡ outcome.Spent → EndsWith o n found least nodes budget bound → budget < nodes + 2
full_as outcome.Optimal n found least nodes budget bound spent ends = cc
full_as outcome.Infeasible n found least nodes budget bound spent ends = cc
full_as outcome.Spent n found least nodes budget bound spent ends = ends.2

-- where no rule fails on a certificate that is spent, two further nodes would pass its budget
spent_full : (n : Net) (c : Cert) → AllKeep n none_held (items_of c) → c.verdict.outcome ≡ outcome.Spent → c.head.budget < length c.nodes + 2
spent_full n c keep spent =
    let end = (AllKeep-parts n none_held (HeadItem c.head ∷ items_from c 0 0 c.nodes) (EndItem c.verdict ∷ []) keep).1 in
    let told = subst (λ (h : Held). EndsAsTold n h c.verdict) (shown_after c) (end.0 VERDICT) in
    let full = full_as c.verdict.outcome n told.0 told.1.least _ c.head.budget c.verdict.bound spent told.1.ends in
    let roots = length-map c.nodes (λ (x : Node). x.roots) in
    omega (arith, full, roots)

-- so they would where it is a search's own
pub own_full : (n : Net) (f : Forest) (budget : ℕ) (c : Cert) → IsOwn n f budget c → c.verdict.outcome ≡ outcome.Spent → budget < length c.nodes + 2
own_full n f budget c own spent = subst (λ (b : ℕ). b < length c.nodes + 2) own.budget_is (spent_full n c own.keep spent)

-- a search gives one that is
pub search_full : {E : Type 0} (n : Net) (f : Forest) (budget : ℕ) (r : Result Cert E) → IfOk r (IsOwn n f budget) → IfOk r (λ c. c.verdict.outcome ≡ outcome.Spent → budget < length c.nodes + 2)
search_full n f budget (Ok c) own = own_full n f budget c own
search_full n f budget (Err e) own = tt
