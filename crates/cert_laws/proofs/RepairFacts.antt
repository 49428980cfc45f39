-- Each repair is one plan, and so is the plan found.
use Rattle.std.proofs.Common.{◌≡◌, ℕ, ◌+◌, ◌*◌, ◌<◌, List, length, get_or, Option, Some, None, refl, sym, ap, ◌∙◌, subst, ⊎_elim, arith}
use Rattle.std.proofs.lemmas.Bool.{cases_order}
use Rattle.std.proofs.lemmas.List.{ext_get_or}
use Rattle.service_model.specs.declared.plan.Plan.{Plan}
use Rattle.service_model.specs.Net.{Net}
use Rattle.service_model.specs.Plans.{HasTimes}
use Rattle.service_model.specs.Networks.{IsNetwork}
use Rattle.service_model.specs.Repairs.{Repair, Raise, Lower, Shift, IsRepair, IsCandidateOf, turn}
use Rattle.gsm_laws.specs.Traces.{SameAt}
use Rattle.cert_laws.specs.Laws.{RepairLaw, FoundOneLaw}
use Rattle.cert_laws.proofs.FoundFacts.{turn_low}
use Rattle.cert_laws.proofs.ShiftFacts.{shift_one}

-- plans of the same times are one plan
same_plan : (n : Net) (a b : Plan) → HasTimes n a → HasTimes n b → ((j : ℕ) → j < length n.stages → SameAt a b j) → a ≡ b
same_plan n a b times other same =
    let inbound : a.inbound ≡ b.inbound =
    ext_get_or 0 _ _ (times.inbound ∙ sym other.inbound) (λ j within. sym (same j (omega (arith, times.inbound))).0) in
    let outbound : a.outbound ≡ b.outbound =
    ext_get_or 0 _ _ (times.outbound ∙ sym other.outbound) (λ j within. sym (same j (omega (arith, times.outbound))).1) in
    ap (λ (i : List ℕ). (let r : Plan = record { inbound = i; outbound = a.outbound } in r)) inbound
    ∙ ap (λ (o : List ℕ). (let r : Plan = record { inbound = b.inbound; outbound = o } in r)) outbound

pub repair_law : RepairLaw
repair_law n Raise q a b valid is other =
    same_plan n a b is.times other.times
    (λ j within. ((other.stages j within).0 ∙ sym (is.stages j within).0, (other.stages j within).1 ∙ sym (is.stages j within).1))
repair_law n Lower q a b valid is other =
    same_plan n a b is.times other.times
    (λ j within. ((other.stages j within).0 ∙ sym (is.stages j within).0, (other.stages j within).1 ∙ sym (is.stages j within).1))
repair_law n Shift q a b valid is other = same_plan n a b is.times other.times (shift_one n q a b valid is other)

turn_one : (a b : Repair) → turn a ≡ turn b → a ≡ b
turn_one Raise Raise same = refl
turn_one Raise Lower same = absurd (omega arith)
turn_one Raise Shift same = absurd (omega arith)
turn_one Lower Raise same = absurd (omega arith)
turn_one Lower Lower same = refl
turn_one Lower Shift same = absurd (omega arith)
turn_one Shift Raise same = absurd (omega arith)
turn_one Shift Lower same = absurd (omega arith)
turn_one Shift Shift same = refl

some_one : {x y : Plan} → (let a : Option Plan = Some x in a ≡ Some y) → x ≡ y
some_one same = cc

-- candidates of one node and one repair are one plan
candidate_one : (n : Net) (relaxed : Option Plan) (kind : Repair) (a b : Plan) → IsNetwork n → IsCandidateOf n relaxed kind a → IsCandidateOf n relaxed kind b
    → a ≡ b
candidate_one n relaxed kind a b valid is other =
    let from : other.from ≡ is.from = some_one (sym other.there ∙ is.there) in
    repair_law n kind is.from a b valid is.repair (subst (λ q. IsRepair kind n q b) from other.repair)

pub found_one_law : FoundOneLaw
found_one_law n relaxed None None valid is other = refl
found_one_law n relaxed None (Some b) valid is other = absurd (is other.node other.kind b other.candidate)
found_one_law n relaxed (Some a) None valid is other = absurd (other is.node is.kind a is.candidate)
found_one_law n relaxed (Some a) (Some b) valid is other =
    let low = is.least other.node other.kind b other.candidate in
    let low' = other.least is.node is.kind a is.candidate in
    let place : 3 * other.node + turn other.kind ≡ 3 * is.node + turn is.kind = ⊎_elim
    (λ same. same)
    (⊎_elim
    (λ before. absurd (omega (arith, low', is.first other.node other.kind b other.candidate before)))
    (λ after. absurd (omega (arith, low, other.first is.node is.kind a is.candidate after))))
    (cases_order (3 * other.node + turn other.kind) (3 * is.node + turn is.kind)) in
    let nodes : other.node ≡ is.node = omega (arith, place, turn_low is.kind, turn_low other.kind) in
    let kinds : other.kind ≡ is.kind = turn_one other.kind is.kind (omega (arith, place, turn_low is.kind, turn_low other.kind)) in
    let same : IsCandidateOf n (get_or relaxed is.node None) is.kind b =
    subst (λ k. IsCandidateOf n (get_or relaxed k None) is.kind b) nodes (subst (λ kind. IsCandidateOf n (get_or relaxed other.node None) kind b) kinds other.candidate) in
    ap (λ (x : Plan). (let o : Option Plan = Some x in o)) (candidate_one n (get_or relaxed is.node None) is.kind a b valid is.candidate same)
