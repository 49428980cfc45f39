-- Where the first broken rule is: at a stage, or on an arc.
use Rattle.std.proofs.Common.{◌≡◌, ◌≢◌, ℕ, ◌+◌, ◌<◌, nat_lt, ◌==◌, Bool, true, false, length, Option, Some, None, refl, ap, ◌∙◌, inl, inr, arith}
use Rattle.std.specs.Bool.{MatchBool}
use Rattle.std.proofs.lemmas.Bool.Decides.{nat_tests}
use Rattle.service_model.specs.declared.breaks.TheConstants.{BEFORE_SUPPLY, PAST_HORIZON, BELOW_LEAST, ABOVE_MOST, NEGATIVE_TIME, NOT_ALLOWED, NOT_WAITED}
use Rattle.service_model.specs.declared.breaks.Break.{Break}
use Rattle.service_model.specs.declared.plan.Plan.{Plan}
use Rattle.service_model.specs.declared.stage.Stage.{Stage}
use Rattle.service_model.specs.Net.{Net, stage_at, arc_in}
use Rattle.service_model.specs.Plans.{inbound_at, outbound_at}
use Rattle.service_model.specs.Search.{or_else, first_of, first_below}
use Rattle.service_model.specs.Breaks.{broken_if, stage_rules, stage_break, arc_break, first_break_of}
use Rattle.service_model.proofs.SearchFacts.{or_else_cases, first_below_at}

-- a broken rule stands at a place
abbrev IsAt : ℕ → Bool → Option Break → Type 0
IsAt place on_arc found = (b : Break) → found ≡ Some b → (b.place ≡ place) × ((b.rule == NOT_WAITED) ≡ on_arc)

rule_at : (place rule : ℕ) (broken on_arc : Bool) → (rule == NOT_WAITED) ≡ on_arc → IsAt place on_arc (broken_if place rule broken)
rule_at place rule true on_arc is = λ b found. (let same : b ≡ record { rule = rule; place = place } = cc in (ap (λ (x : Break). x.place) same, ap (λ (x : Break). x.rule == NOT_WAITED) same ∙ is))
rule_at place rule false on_arc is = λ b found. cc

nothing_at : (place : ℕ) (on_arc : Bool) → IsAt place on_arc None
nothing_at place on_arc = λ b found. cc

either_at : (place : ℕ) (on_arc : Bool) (a b : Option Break) → IsAt place on_arc a → IsAt place on_arc b → IsAt place on_arc (or_else a b)
either_at place on_arc None b is also = also
either_at place on_arc (Some x) b is also = is

stage_at_place : (horizon place : ℕ) (s : Stage) (inbound outbound : ℕ) → IsAt place false (first_of (stage_rules horizon place s inbound outbound))
stage_at_place horizon place s inbound outbound =
    either_at place false _ _ (rule_at place BEFORE_SUPPLY _ false refl)
    (either_at place false _ _ (rule_at place PAST_HORIZON _ false refl)
    (either_at place false _ _ (rule_at place BELOW_LEAST _ false refl)
    (either_at place false _ _ (rule_at place ABOVE_MOST _ false refl)
    (either_at place false _ _ (rule_at place NEGATIVE_TIME _ false refl)
    (either_at place false _ _ (rule_at place NOT_ALLOWED _ false refl) (nothing_at place false))))))

-- the place of a broken rule is that of an arc, or else that of a stage
pub broken_place : (n : Net) (p : Plan) (b : Break) → first_break_of n p ≡ Some b → MatchBool (b.rule == NOT_WAITED) (b.place < length n.arcs) (b.place < length n.stages)
broken_place n p b found = elim (or_else_cases (first_below (stage_break n p) (length n.stages)) (first_below (arc_break n p) (length n.arcs)) b found) [
  | inl here ↦ (let first = first_below_at (stage_break n p) (length n.stages) b here in
      let at = stage_at_place n.horizon first.0 (stage_at n first.0) (inbound_at p first.0) (outbound_at p first.0) b first.2 in
      rw (at.1, at.0) first.1)
  | inr there ↦ (let first = first_below_at (arc_break n p) (length n.arcs) b there.1 in
      let at = rule_at first.0 NOT_WAITED (nat_lt (inbound_at p (arc_in n.arcs first.0).customer) (outbound_at p (arc_in n.arcs first.0).supplier + (arc_in n.arcs first.0).transit)) true refl b first.2 in
      rw (at.1, at.0) first.1)
]

-- the arc on which the rule on arcs is broken
pub arc_place : (n : Net) (p : Plan) (b : Break) → first_break_of n p ≡ Some b → b.rule ≡ NOT_WAITED → b.place < length n.arcs
arc_place n p b found is = (let place = broken_place n p b found in rw is at place)

-- the stage at which another is
pub stage_place : (n : Net) (p : Plan) (b : Break) → first_break_of n p ≡ Some b → b.rule ≢ NOT_WAITED → b.place < length n.stages
stage_place n p b found is = (let place = broken_place n p b found in let other : (b.rule == NOT_WAITED) ≡ false = grind (arith, nat_tests, is) in rw other at place)
