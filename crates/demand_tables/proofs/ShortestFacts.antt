-- The length of the shortest excess demand.
use Rattle.std.proofs.Common.{◌≡◌, ℕ, ◌+◌, ◌<◌, ◌≤◌, min, List, length, get_or, take, inl, inr, arith}
use Rattle.std.specs.Prelude.{All, Any}
use Rattle.std.proofs.lemmas.Bool.{cases_lt}
use Rattle.std.proofs.lemmas.List.{get_or_default}
use Rattle.std.proofs.lemmas.List.Elements.{All-weaker, All-more}
use Rattle.stage_file.specs.declared.arcs.ArcRow.{ArcRow}
use Rattle.demand_tables.specs.Demand.{excess_at}

abbrev pub length_on : List (List ℕ) → ArcRow → ℕ
length_on lists a = length (excess_at lists a.customer)

-- the lesser of two lengths is one of them
pub reached_more : (lists : List (List ℕ)) (arcs : List ArcRow) (k least n : ℕ) (d : ArcRow) → k < length arcs → n ≡ length_on lists (get_or arcs k d)
    → Any (λ a. length_on lists a ≡ least) arcs → Any (λ a. length_on lists a ≡ min least n) arcs
reached_more lists arcs k least n d inside here (at, a, low, is, long) = elim (cases_lt n least) [
  | inl below ↦ (k, get_or arcs k d, inside, get_or_default arcs k (get_or arcs k d) d inside, omega (arith, here))
  | inr above ↦ (at, a, low, is, omega (arith, long))
]

pub least_more : (lists : List (List ℕ)) (arcs : List ArcRow) (k least n : ℕ) (d : ArcRow) → k < length arcs → n ≡ length_on lists (get_or arcs k d)
    → All (λ a. least ≤ length_on lists a) (take k arcs) → All (λ a. min least n ≤ length_on lists a) (take (k + 1) arcs)
least_more lists arcs k least n d inside here before =
    All-more (λ a. min least n ≤ length_on lists a) arcs k d inside
    (All-weaker (λ a. least ≤ length_on lists a) (λ a. min least n ≤ length_on lists a) (λ a le. omega arith) (take k arcs) before)
    (omega (arith, here))
