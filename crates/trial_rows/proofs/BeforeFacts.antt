-- The order of stages by their ranks, and by their numbers among equal ranks.
use Rattle.std.proofs.Common.{◌≢◌, ℕ, ◌⊎◌, List, inl, inr, sym, ap, ◌∙◌, arith}
use Rattle.std.proofs.lemmas.Bool.{cases_order}
use Rattle.trial_rows.specs.declared.drawn.TrialStage.{TrialStage}
use Rattle.trial_rows.specs.Trials.{stage_of, ComesBefore}

-- a stage does not come before itself
pub before_apart : (stages : List TrialStage) (i j : ℕ) → ComesBefore stages i j → i ≢ j
before_apart stages i j (inl less) same = (let equal = ap (λ (k : ℕ). (stage_of stages k).rank) same in omega (arith, less, equal))
before_apart stages i j (inr (rank, less)) same = omega (arith, less, same)

-- what comes before a stage comes before those behind it
pub before_more : (stages : List TrialStage) (i j k : ℕ) → ComesBefore stages i j → ComesBefore stages j k → ComesBefore stages i k
before_more stages i j k (inl a) (inl b) = inl (omega arith)
before_more stages i j k (inl a) (inr (same, b)) = inl (omega (arith, a, same))
before_more stages i j k (inr (same, a)) (inl b) = inl (omega (arith, b, same))
before_more stages i j k (inr (first, a)) (inr (second, b)) = inr (first ∙ second, omega arith)

-- of two stages one comes before the other
pub one_before : (stages : List TrialStage) (i j : ℕ) → i ≢ j → ComesBefore stages i j ⊎ ComesBefore stages j i
one_before stages i j apart = elim (cases_order (stage_of stages i).rank (stage_of stages j).rank) [
  | inl same ↦ (elim (cases_order i j) [
    | inl equal ↦ absurd (apart equal)
    | inr (inl less) ↦ inl (inr (same, less))
    | inr (inr more) ↦ inr (inr (sym same, more))
  ])
  | inr (inl less) ↦ inl (inl less)
  | inr (inr more) ↦ inr (inl more)
]
