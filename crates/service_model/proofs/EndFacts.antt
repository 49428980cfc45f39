-- The rule on arcs that stand twice, one arc further.
use Rattle.std.proofs.Common.{◌≡◌, ℕ, ◌+◌, ◌<◌, Bool, true, false, cond, ◌||◌, ◌&&◌, ◌==◌, Option, Some, None, List, length, take, refl, sym, arith, ◌∙◌}
use Rattle.std.specs.List.{list_any}
use Rattle.std.specs.BTreeMap.{is_at}
use Rattle.std.proofs.lemmas.List.Folds.{list_any_more}
use Rattle.std.proofs.lemmas.Bool.Decides.{nat_tests}
use Rattle.service_model.specs.declared.faults.TheConstants.{ARC_TWICE}
use Rattle.service_model.specs.declared.faults.NetworkFault.{NetworkFault}
use Rattle.service_model.specs.declared.stage.SupplyArc.{SupplyArc}
use Rattle.service_model.specs.Net.{arc_in, no_arc}
use Rattle.service_model.specs.Search.{first_below}
use Rattle.service_model.specs.Faults.{fault_at, fails_if, fails_below, same_ends, stands_twice}
use Rattle.service_model.specs.Ends.{pair_cmp}
use Rattle.service_model.proofs.SearchFacts.{first_below_step, first_below_found}

-- one more pair in a set
pub one_more_pair : (s c x y : ℕ) (before : Bool) → cond (is_at (pair_cmp (s, c)) (x, y)) true before ≡ (before || ((x == s) && (y == c)))
one_more_pair s c x y before = grind (arith, nat_tests)

-- the rule at one arc
abbrev pub twice_rule : List SupplyArc → ℕ → Option NetworkFault
twice_rule arcs a = fails_if ARC_TWICE (stands_twice arcs a) a

-- a set of the ends so far tells whether they stand twice
pub twice_if_met : (arcs : List SupplyArc) (a : ℕ) (b : Bool) → b ≡ list_any (same_ends (arc_in arcs a)) (take a arcs) → b ≡ stands_twice arcs a
unfolding stands_twice
twice_if_met arcs a b met = met

-- one more arc
pub ends_more : (arcs : List SupplyArc) (a : ℕ) (other : SupplyArc) (before : Bool) → before ≡ list_any (same_ends other) (take a arcs) → a < length arcs → (before || same_ends other (arc_in arcs a)) ≡ list_any (same_ends other) (take (a + 1) arcs)
ends_more arcs a other before met within = rw met (sym (list_any_more (same_ends other) arcs a no_arc within))

pub not_twice_more : (arcs : List SupplyArc) (a : ℕ) → first_below (twice_rule arcs) a ≡ None → stands_twice arcs a ≡ false → first_below (twice_rule arcs) (a + 1) ≡ None
unfolding fails_if
not_twice_more arcs a before here = first_below_step (twice_rule arcs) a before ∙ rw here refl

-- the first arc that stands twice
pub first_twice : (arcs : List SupplyArc) (a : ℕ) → first_below (twice_rule arcs) a ≡ None → a < length arcs → stands_twice arcs a ≡ true → Some (fault_at ARC_TWICE a) ≡ fails_below ARC_TWICE (stands_twice arcs) (length arcs)
unfolding fails_below fails_if
first_twice arcs a before within here =
    sym (first_below_found (twice_rule arcs) (length arcs) a (fault_at ARC_TWICE a) before within (rw here refl))

pub none_twice : (arcs : List SupplyArc) (a : ℕ) → first_below (twice_rule arcs) a ≡ None → a ≡ length arcs → None ≡ fails_below ARC_TWICE (stands_twice arcs) (length arcs)
unfolding fails_below
none_twice arcs a before all = rw (← all) (sym before)
