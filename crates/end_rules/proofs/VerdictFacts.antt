-- The rules on verdicts, by the plan found and the least bound.
use Rattle.std.proofs.Common.{◌≡◌, ℕ, ◌==◌, Bool, true, false, length, Option, Some, None, refl, sym, ◌∙◌, subst, arith}
use Rattle.std.specs.Prelude.{MatchBool, ⊤}
use Rattle.std.proofs.lemmas.Bool.{eqb-true}
use Rattle.std.proofs.lemmas.List.{length-map}
use Rattle.service_model.specs.declared.cert_rules.TheConstants.{VERDICT, PLAN}
use Rattle.service_model.specs.declared.plan.Plan.{Plan}
use Rattle.service_model.specs.declared.cert.Verdict.{Verdict}
use Rattle.service_model.specs.Net.{Net}
use Rattle.service_model.specs.Networks.{IsNetwork}
use Rattle.service_model.specs.Held.{Held, budget_of, relaxed_of, roots_of, cuts_of}
use Rattle.service_model.specs.Repairs.{Found}
use Rattle.service_model.specs.Verdicts.{IsLeastBound, EndsWith, ending_plan}
use Rattle.service_model.specs.CertRules.{EndsAsTold, HasEndingPlan, EndRule, IsFirstOf}
use Rattle.cert_laws.proofs.RepairFacts.{found_one_law}
use Rattle.cert_laws.proofs.EndingFacts.{least_bound_one}

roots_long : (h : Held) → length (roots_of h) ≡ length h.nodes
roots_long h = length-map h.nodes (λ x. x.roots)

-- what is known of what came: the plan found, and the least bound of a leaf
pub record IsKnown (n : Net) (h : Held) (nodes budget least : ℕ) (found : Option Plan) : Type 0 where
  pub valid : IsNetwork n
  pub is_found : Found n (relaxed_of h) found
  pub is_least : IsLeastBound h.tables (roots_of h) (cuts_of n h) least
  pub nodes_came : length h.nodes ≡ nodes
  pub budget_is : budget_of h ≡ budget

told : (n : Net) (h : Held) (v : Verdict) (nodes budget least : ℕ) (found : Option Plan) → IsKnown n h nodes budget least found
    → EndsWith v.outcome n found least nodes budget v.bound → EndsAsTold n h v
told n h v nodes budget least found known ends =
    let of_roots = subst (λ k. EndsWith v.outcome n found least k budget v.bound) (sym (roots_long h ∙ known.nodes_came)) ends in
    let of_head = subst (λ b. EndsWith v.outcome n found least (length (roots_of h)) b v.bound) (sym known.budget_is) of_roots in
    (found, record { is_found = known.is_found; least = least; is_least = known.is_least; ends = of_head })

is_told : (n : Net) (h : Held) (v : Verdict) (nodes budget least : ℕ) (found : Option Plan) → IsKnown n h nodes budget least found
    → EndsAsTold n h v → EndsWith v.outcome n found least nodes budget v.bound
is_told n h v nodes budget least found known (other, ends) =
    let same = found_one_law n (relaxed_of h) other found known.valid ends.is_found known.is_found in
    let bound = least_bound_one h.tables (roots_of h) (cuts_of n h) ends.least least ends.is_least known.is_least in
    let of_found = subst (λ f. EndsWith v.outcome n f ends.least (length (roots_of h)) (budget_of h) v.bound) same ends.ends in
    let of_least = subst (λ b. EndsWith v.outcome n found b (length (roots_of h)) (budget_of h) v.bound) bound of_found in
    let of_nodes = subst (λ k. EndsWith v.outcome n found least k (budget_of h) v.bound) (roots_long h ∙ known.nodes_came) of_least in
    subst (λ b. EndsWith v.outcome n found least nodes b v.bound) known.budget_is of_nodes

has_plan : (n : Net) (h : Held) (v : Verdict) (nodes budget least : ℕ) (found : Option Plan) → IsKnown n h nodes budget least found
    → v.plan ≡ ending_plan v.outcome found → HasEndingPlan n h v
has_plan n h v nodes budget least found known is =
    λ other other_found. subst (λ f. v.plan ≡ ending_plan v.outcome f) (found_one_law n (relaxed_of h) found other known.valid known.is_found other_found) is

-- two rules hold, each where its number is tested
both : (A B : Type 0) (first second : Bool) → (first ≡ true → A) → (second ≡ true → B) → MatchBool first A (MatchBool second B ⊤)
both A B true second a b = a refl
both A B false true a b = b refl
both A B false false a b = tt

-- the first rule fails
pub verdict_fails : (n : Net) (h : Held) (v : Verdict) (nodes budget least : ℕ) (found : Option Plan) → IsKnown n h nodes budget least found
    → ¬ EndsWith v.outcome n found least nodes budget v.bound → IsFirstOf (EndRule n h v) (Some VERDICT)
verdict_fails n h v nodes budget least found known not = (
  λ as_told. not (is_told n h v nodes budget least found known as_told),
  λ k less. both (EndsAsTold n h v) (HasEndingPlan n h v) (k == VERDICT) (k == PLAN)
      (λ is. absurd (omega (arith, less, eqb-true k VERDICT is)))
      (λ is. absurd (omega (arith, less, eqb-true k PLAN is))),
)

-- the first rule holds, and the second fails
pub plan_fails : (n : Net) (h : Held) (v : Verdict) (nodes budget least : ℕ) (found : Option Plan) → IsKnown n h nodes budget least found
    → EndsWith v.outcome n found least nodes budget v.bound → ¬ (v.plan ≡ ending_plan v.outcome found) → IsFirstOf (EndRule n h v) (Some PLAN)
plan_fails n h v nodes budget least found known ends not = (
  λ has. not (has found known.is_found),
  λ k less. both (EndsAsTold n h v) (HasEndingPlan n h v) (k == VERDICT) (k == PLAN)
      (λ is. told n h v nodes budget least found known ends)
      (λ is. absurd (omega (arith, less, eqb-true k PLAN is))),
)

-- both rules hold
pub none_fails : (n : Net) (h : Held) (v : Verdict) (nodes budget least : ℕ) (found : Option Plan) → IsKnown n h nodes budget least found
    → EndsWith v.outcome n found least nodes budget v.bound → v.plan ≡ ending_plan v.outcome found → IsFirstOf (EndRule n h v) None
none_fails n h v nodes budget least found known ends has =
    λ k. both (EndsAsTold n h v) (HasEndingPlan n h v) (k == VERDICT) (k == PLAN)
    (λ is. told n h v nodes budget least found known ends)
    (λ is. has_plan n h v nodes budget least found known has)
