-- A plan is feasible exactly where no rule is broken.
use Rattle.std.proofs.Common.{◌≡◌, inl, inr, ◌⊎◌, ℕ, ◌+◌, ◌<◌, ◌≤◌, ltb, Option, Some, None, length, refl, sym, subst, arith}
use Rattle.std.specs.Option.{IfNone, IfSome}
use Rattle.std.proofs.lemmas.List.{get_or_default}
use Rattle.std.proofs.lemmas.Bool.Decides.{nat_tests}
use Rattle.service_model.specs.declared.limits.TheConstants.{INF}
use Rattle.service_model.specs.declared.breaks.Break.{Break}
use Rattle.service_model.specs.declared.breaks.TheConstants.{NOT_WAITED}
use Rattle.service_model.specs.declared.stage.Stage.{Stage}
use Rattle.service_model.specs.declared.stage.SupplyArc.{SupplyArc}
use Rattle.service_model.specs.declared.plan.Plan.{Plan}
use Rattle.service_model.specs.Net.{Net, stage_at, arc_in, no_arc}
use Rattle.service_model.specs.Plans.{charge, inbound_at, outbound_at, HasTimes, Meets, Feasible}
use Rattle.service_model.specs.Search.{first_of, first_below}
use Rattle.service_model.specs.Breaks.{broken_if, stage_rules, stage_break, arc_break, first_break_of}
use Rattle.service_model.proofs.SearchFacts.{or_else_first, or_else_second, none_below, below_none}

-- the rules on one stage's times hold
pub record KeepsRules (horizon : ℕ) (s : Stage) (inbound outbound : ℕ) : Type 0 where
  pub supplied : s.supply ≤ inbound
  pub within : inbound ≤ horizon
  pub not_early : s.least ≤ outbound
  pub not_late : outbound ≤ s.most
  pub allowed : charge s.lead s.cost inbound outbound < INF

keeps_rules : (horizon place : ℕ) (s : Stage) (inbound outbound : ℕ) → first_of (stage_rules horizon place s inbound outbound) ≡ None → KeepsRules horizon s inbound outbound
keeps_rules horizon place s inbound outbound none = record {
  supplied = grind (arith, nat_tests);
  within = grind (arith, nat_tests);
  not_early = grind (arith, nat_tests);
  not_late = grind (arith, nat_tests);
  allowed = grind (arith, nat_tests);
}

no_rule : (horizon place : ℕ) (s : Stage) (inbound outbound : ℕ) → KeepsRules horizon s inbound outbound → first_of (stage_rules horizon place s inbound outbound) ≡ None
no_rule horizon place s inbound outbound keeps = grind (arith, nat_tests)

meets : (p : Plan) (a : ℕ) (arc : SupplyArc) → broken_if a NOT_WAITED (ltb (inbound_at p arc.customer) (outbound_at p arc.supplier + arc.transit)) ≡ None → Meets p arc
meets p a arc none = grind (arith, nat_tests)

no_arc_rule : (p : Plan) (a : ℕ) (arc : SupplyArc) → Meets p arc → broken_if a NOT_WAITED (ltb (inbound_at p arc.customer) (outbound_at p arc.supplier + arc.transit)) ≡ None
no_arc_rule p a arc met = grind (arith, nat_tests)

-- a plan that breaks no rule is feasible
pub Feasible_from_none : (n : Net) (p : Plan) → HasTimes n p → first_break_of n p ≡ None → Feasible n p
Feasible_from_none n p times none =
    let at_stages = or_else_first (first_below (stage_break n p) (length n.stages)) (first_below (arc_break n p) (length n.arcs)) none in
    let at_arcs = or_else_second (first_below (stage_break n p) (length n.stages)) (first_below (arc_break n p) (length n.arcs)) none in
    record {
      times = times;
      stages = λ j within.
          let keeps = keeps_rules n.horizon j (stage_at n j) (inbound_at p j) (outbound_at p j) (none_below (stage_break n p) (length n.stages) at_stages j within) in
          record { supplied = keeps.supplied; within = keeps.within; not_early = keeps.not_early; not_late = keeps.not_late; allowed = keeps.allowed };
      arcs = λ a d within.
          let met = meets p a (arc_in n.arcs a) (none_below (arc_break n p) (length n.arcs) at_arcs a within) in
          subst (Meets p) (get_or_default n.arcs a no_arc d within) met;
    }

-- a feasible plan breaks no rule
pub none_from_Feasible : (n : Net) (p : Plan) → Feasible n p → first_break_of n p ≡ None
none_from_Feasible n p feasible =
    let at_stages = below_none (stage_break n p) (length n.stages) (λ j within.
    let fits = feasible.stages j within in
    no_rule n.horizon j (stage_at n j) (inbound_at p j) (outbound_at p j) (record { supplied = fits.supplied; within = fits.within; not_early = fits.not_early; not_late = fits.not_late; allowed = fits.allowed })) in
    let at_arcs = below_none (arc_break n p) (length n.arcs) (λ a within. no_arc_rule p a (arc_in n.arcs a) (feasible.arcs a no_arc within)) in
    rw (at_stages, at_arcs) refl

-- the same, of an answer that is the first broken rule
pub feasible_if_none : (n : Net) (p : Plan) (found : Option Break) → HasTimes n p → found ≡ first_break_of n p → IfNone found (Feasible n p)
feasible_if_none n p None times first = Feasible_from_none n p times (sym first)
feasible_if_none n p (Some b) times first = tt

pub infeasible_if_some : (n : Net) (p : Plan) (found : Option Break) → found ≡ first_break_of n p → IfSome found (λ b. ¬ Feasible n p)
infeasible_if_some n p None first = tt
infeasible_if_some n p (Some b) first = λ feasible. (let none = none_from_Feasible n p feasible in cc)

-- a plan with its times is feasible or not
by_first_break : (n : Net) (p : Plan) → HasTimes n p → (found : Option Break) → found ≡ first_break_of n p → Feasible n p ⊎ (¬ Feasible n p)
by_first_break n p times None first = inl (Feasible_from_none n p times (sym first))
by_first_break n p times (Some b) first = inr (λ feasible. (let none = none_from_Feasible n p feasible in cc))

pub Feasible_or_not : (n : Net) (p : Plan) → HasTimes n p → Feasible n p ⊎ (¬ Feasible n p)
Feasible_or_not n p times = by_first_break n p times (first_break_of n p) refl
