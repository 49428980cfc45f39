-- A list after one of its items took a step.
use Rattle.std.proofs.Common.{◌≡◌, ◌≢◌, ℕ, ◌<◌, Bool, true, false, cond, List, length, get_or, set, sym, subst}
use Rattle.std.specs.Prelude.{◌==◌}
use Rattle.std.proofs.lemmas.Bool.{eqb-true, eq-eqb, both_ways}
use Rattle.std.proofs.lemmas.List.{get_or-set_same, get_or-set_other}

pub set_step : {A : Type 0} (xs : List A) (d : A) (c j : ℕ) (step : A → A) (here : Bool) → (c == j) ≡ here → c < length xs
    → get_or (set xs c (step (get_or xs c d))) j d ≡ cond here (step (get_or xs j d)) (get_or xs j d)
set_step xs d c j step true is within =
    let same : c ≡ j = eqb-true c j is in
    subst (λ (k : ℕ). get_or (set xs c (step (get_or xs c d))) k d ≡ step (get_or xs k d)) same (get_or-set_same xs c _ d within)
set_step xs d c j step false is within =
    let other : j ≢ c = λ same. both_ways (c == j) is (eq-eqb c j (sym same)) in
    get_or-set_other xs c j _ d other
