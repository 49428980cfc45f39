-- A search that has not ended, and its next leaf.
use Rattle.std.proofs.Common.{◌≡◌, ◌≢◌, ℕ, ◌+◌, ◌<◌, ◌≤◌, List, Option, Some, None, refl, ⊎_elim, arith}
use Rattle.std.proofs.lemmas.Bool.{cases_lt}
use Rattle.service_model.specs.declared.limits.TheConstants.{INF}
use Rattle.service_model.specs.declared.plan.Plan.{Plan}
use Rattle.service_model.specs.declared.cert.Outcome.TheVariants.{Optimal, Infeasible, Spent}
use Rattle.service_model.specs.Net.{Net}
use Rattle.service_model.specs.Plans.{cost_of}
use Rattle.service_model.specs.Repairs.{IsFound, Found}
use Rattle.service_model.specs.Verdicts.{Closes}
use Rattle.service_model.specs.Held.{Held, relaxed_of, bound_at}
use Rattle.service_model.specs.Earned.{IsOpen}
use Rattle.range_splits.specs.Open.{IsEndingOf}

-- what holds where a search goes on
pub record GoesOn (n : Net) (found : Option Plan) (least nodes budget : ℕ) : Type 0 where
  pub unclosed : ¬ Closes n found least
  pub finite : least ≢ INF
  pub room : nodes + 2 ≤ budget

unclosed : (n : Net) (found : Option Plan) (least nodes budget : ℕ) → IsEndingOf n found least nodes budget None → ¬ Closes n found least
unclosed n None least nodes budget unended closes = closes
unclosed n (Some p) least nodes budget unended closes = unended Optimal (cost_of n p) (closes, refl)

pub goes_on : (n : Net) (found : Option Plan) (least nodes budget : ℕ) → IsEndingOf n found least nodes budget None → GoesOn n found least nodes budget
goes_on n found least nodes budget unended =
    let not_closed = unclosed n found least nodes budget unended in
    let finite : least ≢ INF = λ is. unended Infeasible INF (not_closed, is, refl) in
    record {
      unclosed = not_closed;
      finite = finite;
      room = ⊎_elim (λ late. absurd (unended Spent least (not_closed, finite, late, refl))) (λ room. room) (cases_lt budget (nodes + 2));
    }

no_found : (n : Net) (relaxed : List (Option Plan)) (p : Plan) → Found n relaxed None → ¬ IsFound n relaxed p
no_found n relaxed p none is = none is.node is.kind p is.candidate

-- a leaf that closes no search is open
below : (n : Net) (relaxed : List (Option Plan)) (found : Option Plan) (least : ℕ) (p : Plan) → Found n relaxed found → ¬ Closes n found least
    → IsFound n relaxed p → least < cost_of n p
below n relaxed None least p found not_closed is = absurd (no_found n relaxed p found is)
below n relaxed (Some q) least p found not_closed is =
    let low = found.least is.node is.kind p is.candidate in
    ⊎_elim (λ high. omega (arith, high, low)) (λ closes. absurd (not_closed closes)) (cases_lt least (cost_of n q))

pub is_open : (n : Net) (h : Held) (k : ℕ) (found : Option Plan) (least : ℕ) → Found n (relaxed_of h) found → bound_at h k ≡ least
    → ¬ Closes n found least → least ≢ INF → IsOpen n h k
is_open n h k found least is same not_closed finite = record {
  finite = ⊎_elim (λ low. low) (λ high. absurd (finite (omega (arith, same, high)))) (cases_lt (bound_at h k) INF);
  below = λ p best. let low = below n (relaxed_of h) found least p is not_closed best in omega (arith, low, same);
}
