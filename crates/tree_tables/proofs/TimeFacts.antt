-- The best times so far, and the times at which a value is attained.
use Rattle.std.proofs.Common.{ℕ, ◌≡◌, ◌+◌, ◌<◌, ◌≤◌, List, length, get_or, sym, ap, subst, ⊎_elim, arith}
use Rattle.std.proofs.lemmas.Bool.{cases_eq}
use Rattle.service_model.specs.declared.limits.TheConstants.{INF}
use Rattle.service_model.specs.declared.table.Kind.{Kind}
use Rattle.service_model.specs.declared.table.Kind.TheVariants.{Down, Up, Root}
use Rattle.service_model.specs.declared.table.Table.{Table}
use Rattle.service_model.specs.Net.{Net}
use Rattle.service_model.specs.Tables.{width, place, place_of}
use Rattle.service_model.specs.LocalSums.{local_sum, Covers}
use Rattle.tree_tables.specs.declared.times.Window.{Window}
use Rattle.tree_tables.specs.Fills.{IsFill}
use Rattle.tree_tables.specs.Leasts.{IsLeast}
use Rattle.tree_tables.specs.Steps.{window, IsInWindow, Attains}
use Rattle.tree_tables.specs.Sums.{Parts, local_at}
use Rattle.tree_tables.proofs.TightFacts.{ArePartsOf, local_by_parts}

-- of the rows before o, the best has the least value, which is the lowest
pub record IsBestRow (f : ℕ → ℕ → ℕ) (from to least o best lowest : ℕ) : Type 0 where
  pub not_early : least ≤ best
  pub not_late : best < o
  pub row : IsLeast (λ i. f i best) from to lowest
  pub rows : (i m : ℕ) → from ≤ i → i < to → least ≤ m → m < o → lowest ≤ f i m

pub row_taken : (f : ℕ → ℕ → ℕ) (from to least o best lowest row : ℕ) → IsBestRow f from to least o best lowest
    → IsLeast (λ i. f i o) from to row → row < lowest → IsBestRow f from to least (o + 1) o row
row_taken f from to least o best lowest row known here less = record {
  not_early = omega (arith, known.not_early, known.not_late);
  not_late = omega arith;
  row = here;
  rows = λ i m above below early late. ⊎_elim
      (λ same. let e : f i m ≡ f i o = ap (f i) same in omega (arith, e, here.lower i above below))
      (λ other. omega (arith, known.rows i m above below early (omega arith), less))
      (cases_eq m o);
}

pub row_kept : (f : ℕ → ℕ → ℕ) (from to least o best lowest row : ℕ) → IsBestRow f from to least o best lowest
    → IsLeast (λ i. f i o) from to row → lowest ≤ row → IsBestRow f from to least (o + 1) best lowest
row_kept f from to least o best lowest row known here less = record {
  not_early = known.not_early;
  not_late = omega (arith, known.not_late);
  row = known.row;
  rows = λ i m above below early late. ⊎_elim
      (λ same. let e : f i m ≡ f i o = ap (f i) same in omega (arith, e, here.lower i above below, less))
      (λ other. known.rows i m above below early (omega arith))
      (cases_eq m o);
}

in_window : (kind : Kind) (n : Net) (t : Table) (k i o : ℕ) → Covers n t i o → place kind t.least t.floor i o ≡ k
    → IsInWindow (window kind n.horizon t.least t.most t.floor k) i o
in_window Down n t k i o covers at = record {
  not_below = covers.not_below;
  not_above = omega (arith, covers.not_above);
  not_early = omega (arith, at, covers.not_early);
  not_late = omega (arith, at, covers.not_early);
}
in_window Up n t k i o covers at = record {
  not_below = omega (arith, at, covers.not_below);
  not_above = omega (arith, at, covers.not_below);
  not_early = covers.not_early;
  not_late = omega (arith, covers.not_late);
}
in_window Root n t k i o covers at = record {
  not_below = covers.not_below;
  not_above = omega (arith, covers.not_above);
  not_early = covers.not_early;
  not_late = omega (arith, covers.not_late);
}

-- times in the window are covered, and their value stands at the place
from_window : (kind : Kind) (n : Net) (t : Table) (k i o : ℕ) → k < width kind n.horizon t.least t.most t.floor
    → IsInWindow (window kind n.horizon t.least t.most t.floor k) i o → Covers n t i o × (place kind t.least t.floor i o ≡ k)
from_window Down n t k i o low inside = (
  record {
    not_early = omega (arith, inside.not_early);
    not_late = omega (arith, inside.not_late, low);
    not_below = inside.not_below;
    not_above = omega (arith, inside.not_above);
  },
  omega (arith, inside.not_early, inside.not_late),
)
from_window Up n t k i o low inside = (
  record {
    not_early = inside.not_early;
    not_late = omega (arith, inside.not_late);
    not_below = omega (arith, inside.not_below);
    not_above = omega (arith, inside.not_above, low);
  },
  omega (arith, inside.not_below, inside.not_above),
)
from_window Root n t k i o low inside = (
  record {
    not_early = inside.not_early;
    not_late = omega (arith, inside.not_late);
    not_below = inside.not_below;
    not_above = omega (arith, inside.not_above);
  },
  omega (arith, low),
)

-- a value that is below INF is the local sum of the times with the least local sum among those that it covers
pub attained : (n : Net) (tables : List Table) (t : Table) (p : Parts) (k i o : ℕ) (w : Window) → ArePartsOf n tables t p
    → n.horizon < length p.down → n.horizon < length p.up → IsFill n tables t → k < length t.values → get_or t.values k 0 < INF
    → w ≡ window t.kind n.horizon t.least t.most t.floor k → IsInWindow w i o
    → ((i' o' : ℕ) → IsInWindow w i' o' → local_at p i o ≤ local_at p i' o') → Attains n tables t k i o
attained n tables t p k i o w of long long' filled within small is inside least =
    let both = from_window t.kind n t k i o (omega (arith, filled.sized.values)) (subst (λ (v : Window). IsInWindow v i o) is inside) in
    let here = local_by_parts n tables t p i o of (omega (arith, long, both.0.not_above)) (omega (arith, long', filled.sized.within, both.0.not_late)) in
    let lower : get_or t.values (place_of t i o) 0 ≤ local_sum n tables t i o = filled.tight.lower i o both.0 in
    let same : get_or t.values (place_of t i o) 0 ≡ get_or t.values k 0 = ap (λ m. get_or t.values m 0) both.1 in
    record {
      covers = both.0;
      stands = both.1;
      value = ⊎_elim
          (λ top. absurd (omega (arith, top, small)))
          (λ at.
          let there = local_by_parts n tables t p at.0 at.1 of (omega (arith, long, at.2.not_above)) (omega (arith, long', filled.sized.within, at.2.not_late)) in
          let more = least at.0 at.1 (subst (λ (v : Window). IsInWindow v at.0 at.1) (sym is) (in_window t.kind n t k at.0 at.1 at.2 at.3)) in
          omega (arith, here, lower, same, there, more, at.4))
          (filled.tight.reached k within);
    }
