-- A rule on networks that holds.
use Rattle.std.proofs.Common.{◌≡◌, ℕ, ◌<◌, Bool, true, false, Some, None, List, length, get_or, cond, option_map, refl, arith}
use Rattle.std.specs.List.{position_or_len}
use Rattle.std.proofs.lemmas.List.Sums.{fails_before_first}
use Rattle.std.proofs.lemmas.Bool.{ltb-false}
use Rattle.service_model.specs.Faults.{fault_at, fails_if, fails_at, fails_below}
use Rattle.service_model.proofs.SearchFacts.{none_below}

pub no_fault : (rule : ℕ) (fails : Bool) (place : ℕ) → fails_if rule fails place ≡ None → fails ≡ false
unfolding fails_if
no_fault rule true place none = cc
no_fault rule false place none = refl

not_there : (b : Bool) (rule k : ℕ) → option_map (fault_at rule) (cond b (Some k) None) ≡ None → b ≡ false
not_there true rule k none = cc
not_there false rule k none = refl

-- a rule that fails at no item
pub none_fails_at : {A : Type 0} (rule : ℕ) (fails : A → Bool) (items : List A) → fails_at rule fails items ≡ None → (k : ℕ) (d : A) → k < length items → fails (get_or items k d) ≡ false
unfolding fails_at
none_fails_at rule fails items none k d within =
    fails_before_first fails items k d (omega (arith, ltb-false (position_or_len fails items) (length items) (not_there _ rule _ none)))

-- a rule that fails at no place
pub none_fails_below : (rule : ℕ) (fails : ℕ → Bool) (count : ℕ) → fails_below rule fails count ≡ None → (k : ℕ) → k < count → fails k ≡ false
unfolding fails_below
none_fails_below rule fails count none k within =
    no_fault rule (fails k) k (none_below (λ k. fails_if rule (fails k) k) count none k within)
