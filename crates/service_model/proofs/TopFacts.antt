-- The greatest allowed entry of a cost list, and the sum of these over the stages.
use Rattle.std.proofs.Common.{◌≡◌, ℕ, zero, suc, ◌+◌, ◌<◌, ◌≤◌, cond, ltb, max, List, [], ◌∷◌, length, get_or, take, refl, arith, add-one}
use Rattle.std.proofs.lemmas.Bool.Decides.{nat_tests}
use Rattle.service_model.specs.declared.limits.TheConstants.{INF}
use Rattle.service_model.specs.Plans.{entry_of}
use Rattle.service_model.specs.Faults.{top_of}

-- the greatest allowed entry is below INF
pub top_below_INF : (cost : List ℕ) → top_of cost < INF
top_below_INF [] = omega arith
top_below_INF (x ∷ xs) = let rest : top_of xs < INF = top_below_INF xs in grind (arith, nat_tests, rest)

-- an allowed entry is at most the greatest
pub entry_below_top : (cost : List ℕ) (time : ℕ) → entry_of cost time < INF → entry_of cost time ≤ top_of cost
entry_below_top [] time allowed = absurd (omega arith)
entry_below_top (x ∷ xs) zero allowed = grind (arith, nat_tests)
entry_below_top (x ∷ xs) (suc time) allowed =
    let rest : entry_of xs time ≤ top_of xs = entry_below_top xs time allowed in
    grind (arith, nat_tests, rest)

swap_entries : (x y top : ℕ) → cond (ltb x INF) (max x (cond (ltb y INF) (max y top) top)) (cond (ltb y INF) (max y top) top) ≡ cond (ltb y INF) (max y (cond (ltb x INF) (max x top) top)) (cond (ltb x INF) (max x top) top)
swap_entries x y top = grind (arith, nat_tests)

top_of_suc : (cost : List ℕ) (i : ℕ) → i < length cost → top_of (take (suc i) cost) ≡ cond (ltb (get_or cost i 0) INF) (max (get_or cost i 0) (top_of (take i cost))) (top_of (take i cost))
top_of_suc [] i within = absurd (omega arith)
top_of_suc (x ∷ xs) zero within = refl
top_of_suc (x ∷ xs) (suc i) within =
    let rest = top_of_suc xs i (omega arith) in
    rw (rest, swap_entries x (get_or xs i 0) (top_of (take i xs))) refl

pub top_of_more : (cost : List ℕ) (i : ℕ) → i < length cost → top_of (take (i + 1) cost) ≡ cond (ltb (get_or cost i 0) INF) (max (get_or cost i 0) (top_of (take i cost))) (top_of (take i cost))
top_of_more cost i within = rw add-one (top_of_suc cost i within)
