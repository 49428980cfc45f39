-- A search has at most one ending.
use Rattle.std.proofs.Common.{◌≡◌, ℕ, ◌≤◌, List, length, Option, Some, None, refl, sym, ap, ◌∙◌, subst, arith}
use Rattle.std.specs.Prelude.{IsSomeAnd}
use Rattle.service_model.specs.declared.plan.Plan.{Plan}
use Rattle.service_model.specs.declared.table.Table.{Table}
use Rattle.service_model.specs.declared.cert.Outcome.{Outcome}
use Rattle.service_model.specs.declared.cert.Outcome.TheVariants.{Optimal, Infeasible, Spent}
use Rattle.service_model.specs.declared.cert.Verdict.{Verdict}
use Rattle.service_model.specs.Net.{Net}
use Rattle.service_model.specs.Plans.{cost_of}
use Rattle.service_model.specs.CertRanges.{Cut}
use Rattle.service_model.specs.Verdicts.{IsLeastBound, Closes, EndsWith, ending_plan}
use Rattle.cert_laws.specs.Laws.{EndingOneLaw}
use Rattle.cert_laws.proofs.RepairFacts.{found_one_law}

-- the least bound of a leaf is one
pub least_bound_one : (tables : List Table) (roots : List (List ℕ)) (cuts : List Cut) (a b : ℕ) → IsLeastBound tables roots cuts a → IsLeastBound tables roots cuts b
    → a ≡ b
least_bound_one tables roots cuts a b is other =
    omega (arith, is.reached, other.reached, is.lower other.node other.leaf, other.lower is.node is.leaf)

optimal_closes : (n : Net) (found : Option Plan) (least bound : ℕ) → IsSomeAnd found (λ p. (cost_of n p ≤ least) × (bound ≡ cost_of n p)) → Closes n found least
optimal_closes n None least bound ends = ends
optimal_closes n (Some p) least bound ends = ends.0

optimal_one : (n : Net) (found : Option Plan) (least b b' : ℕ) → IsSomeAnd found (λ p. (cost_of n p ≤ least) × (b ≡ cost_of n p))
    → IsSomeAnd found (λ p. (cost_of n p ≤ least) × (b' ≡ cost_of n p)) → b ≡ b'
optimal_one n None least b b' ends other = absurd ends
optimal_one n (Some p) least b b' ends other = ends.1 ∙ sym other.1

-- of one plan found and one least bound there is one ending
ends_one : (o o' : Outcome) (n : Net) (found : Option Plan) (least nodes budget b b' : ℕ) → EndsWith o n found least nodes budget b
    → EndsWith o' n found least nodes budget b' → (o ≡ o') × (b ≡ b')
ends_one Optimal Optimal n found least nodes budget b b' ends other = (refl, optimal_one n found least b b' ends other)
ends_one Optimal Infeasible n found least nodes budget b b' ends other = absurd (other.0 (optimal_closes n found least b ends))
ends_one Optimal Spent n found least nodes budget b b' ends other = absurd (other.0 (optimal_closes n found least b ends))
ends_one Infeasible Optimal n found least nodes budget b b' ends other = absurd (ends.0 (optimal_closes n found least b' other))
ends_one Infeasible Infeasible n found least nodes budget b b' ends other = (refl, ends.2 ∙ sym other.2)
ends_one Infeasible Spent n found least nodes budget b b' ends other = absurd (other.1 ends.1)
ends_one Spent Optimal n found least nodes budget b b' ends other = absurd (ends.0 (optimal_closes n found least b' other))
ends_one Spent Infeasible n found least nodes budget b b' ends other = absurd (ends.1 other.1)
ends_one Spent Spent n found least nodes budget b b' ends other = (refl, ends.3 ∙ sym other.3)

same_verdict : (v w : Verdict) → v.outcome ≡ w.outcome → v.bound ≡ w.bound → v.plan ≡ w.plan → v ≡ w
same_verdict v w outcome bound plan =
    ap (λ (o : Outcome). (let r : Verdict = record { outcome = o; bound = v.bound; plan = v.plan } in r)) outcome
    ∙ ap (λ (b : ℕ). (let r : Verdict = record { outcome = w.outcome; bound = b; plan = v.plan } in r)) bound
    ∙ ap (λ (p : Option Plan). (let r : Verdict = record { outcome = w.outcome; bound = w.bound; plan = p } in r)) plan

pub ending_one_law : EndingOneLaw
ending_one_law n s budget v w valid (found, ending, plan) (found', ending', plan') =
    let same_found = found_one_law n s.relaxed found' found valid ending'.is_found ending.is_found in
    let same_least = least_bound_one s.tables s.roots s.cuts ending'.least ending.least ending'.is_least ending.is_least in
    let found_same = subst (λ f. EndsWith w.outcome n f ending'.least (length s.roots) budget w.bound) same_found ending'.ends in
    let other = subst (λ least. EndsWith w.outcome n found least (length s.roots) budget w.bound) same_least found_same in
    let one = ends_one v.outcome w.outcome n found ending.least (length s.roots) budget v.bound w.bound ending.ends other in
    same_verdict v w one.0 one.1
    (plan ∙ ap (λ o. ending_plan o found) one.0 ∙ ap (ending_plan w.outcome) (sym same_found) ∙ sym plan')
