-- There is an excess demand under each bound that names a table or has its customers.
use Rattle.std.proofs.Common.{ℕ, suc, ◌≡◌, ◌+◌, ◌*◌, ◌<◌, ◌≤◌, true, false, List, [], ◌∷◌, length, get_or, take, map, Option, Some, None, refl, sym, subst, inl, inr, arith}
use Rattle.std.specs.List.{sum_by, range_with_len}
use Rattle.std.specs.Option.{IsSome, is_none, option_map}
use Rattle.std.proofs.lemmas.Bool.{cases_lt}
use Rattle.std.proofs.lemmas.List.Elements.{All-nil, All-cons, All-weaker}
use Rattle.std.proofs.lemmas.List.FromFn.{length-map-range_with_len, get_or-map-range_with_len}
use Rattle.gsm_nums.specs.Root.{IsRootUp, root_up_of}
use Rattle.gsm_nums.proofs.RootFacts.{root_up_is}
use Rattle.stage_file.specs.declared.stages.Bound.{Bound}
use Rattle.stage_file.specs.declared.stages.Bound.TheVariants.{Named, Normal, Sum, Pool}
use Rattle.stage_file.specs.declared.arcs.ArcRow.{ArcRow}
use Rattle.stage_file.specs.declared.raw.RawNet.{RawNet}
use Rattle.stage_file.specs.Arcs.{place_of}
use Rattle.demand_tables.specs.Demand.{no_table, table_names, named_excess, asked, asked_square, EachTime, IsShortest, IsBounded}
use Rattle.demand_tables.specs.DemandFaults.{lacks_table, asks_customers}
use Rattle.demand_tables.proofs.ShortestFacts.{length_on}

-- the list of f at each time
abbrev listed : (ℕ → ℕ) → ℕ → List ℕ
listed f n = map f (range_with_len 0 n)

length_listed : (f : ℕ → ℕ) (n : ℕ) → length (listed f n) ≡ n
length_listed f n = length-map-range_with_len f 0 n

each_listed : (P : ℕ → ℕ → Type 0) (f : ℕ → ℕ) (n : ℕ) → ((t : ℕ) → P t (f t)) → EachTime P (listed f n)
each_listed P f n each t inside =
    subst (λ x. P t x) (sym (get_or-map-range_with_len f 0 n t t 0 (omega (arith, inside, length_listed f n)) (omega arith))) (each t)

-- a table that is named gives its entries
named_at : (raw : RawNet) (place : Option ℕ) → is_none place ≡ false
    → IsSome (option_map (λ k. take (raw.horizon + 1) (get_or raw.tables k no_table).entries) place)
named_at raw None there = cc
named_at raw (Some k) there = refl

pub named_some : (raw : RawNet) (name : List ℕ) → lacks_table (table_names raw.tables) (Named name) ≡ false → IsSome (named_excess raw name)
unfolding lacks_table named_excess
named_some raw name there = named_at raw (place_of (table_names raw.tables) name) there

some_value : {A : Type 0} (o : Option A) → IsSome o → (x : A) × (o ≡ Some x)
some_value None there = cc
some_value (Some x) there = (x, refl)

some_shortest : (lists : List (List ℕ)) (a : ArcRow) (arcs : List ArcRow) → (n : ℕ) × IsShortest lists (a ∷ arcs) n
some_shortest lists a [] = (
  length_on lists a,
  record {
    reached = (0, a, omega arith, refl, refl);
    least = All-cons (λ (b : ArcRow). length_on lists a ≤ length_on lists b) a [] (omega arith) (All-nil (λ (b : ArcRow). length_on lists a ≤ length_on lists b));
  },
)
some_shortest lists a (b ∷ arcs) =
    let rest = some_shortest lists b arcs in
    elim (cases_lt (length_on lists a) rest.0) [
      | inl below ↦ (
        length_on lists a,
        record {
          reached = (0, a, omega arith, refl, refl);
          least = All-cons (λ (c : ArcRow). length_on lists a ≤ length_on lists c) a (b ∷ arcs) (omega arith)
              (All-weaker (λ (c : ArcRow). rest.0 ≤ length_on lists c) (λ (c : ArcRow). length_on lists a ≤ length_on lists c) (λ c le. omega (arith, le, below)) (b ∷ arcs) rest.1.least);
        },
      )
      | inr above ↦ (
          let (at, x, low, is, long) = rest.1.reached in (
            rest.0,
            record {
              reached = (suc at, x, omega (arith, low), is, long);
              least = All-cons (λ (c : ArcRow). rest.0 ≤ length_on lists c) a (b ∷ arcs) above rest.1.least;
            },
          )
          )
    ]

pub some_bounded : (raw : RawNet) (lists : List (List ℕ)) (arcs : List ArcRow) (bound : Bound) → lacks_table (table_names raw.tables) bound ≡ false
    → (asks_customers bound ≡ true → 0 < length arcs) → (xs : List ℕ) × IsBounded raw lists arcs bound xs
unfolding asks_customers
some_bounded raw lists arcs (Named name) there some = some_value (named_excess raw name) (named_some raw name there)
some_bounded raw lists arcs (Normal factor) there some =
    let f = λ (t : ℕ). root_up_of (factor * factor * t) in (
      listed f (raw.horizon + 1),
      record {
        long = length_listed f (raw.horizon + 1);
        each = each_listed (λ t x. IsRootUp (factor * factor * t) x) f (raw.horizon + 1) (λ t. root_up_is (factor * factor * t));
      },
    )
some_bounded raw lists [] Sum there some = absurd (omega (arith, some refl))
some_bounded raw lists (a ∷ arcs) Sum there some =
    let n = some_shortest lists a arcs in
    let f = λ (t : ℕ). sum_by (asked lists t) (a ∷ arcs) in (
      listed f n.0,
      record {
        long = subst (λ m. IsShortest lists (a ∷ arcs) m) (sym (length_listed f n.0)) n.1;
        each = each_listed (λ t x. x ≡ sum_by (asked lists t) (a ∷ arcs)) f n.0 (λ t. refl);
      },
    )
some_bounded raw lists [] Pool there some = absurd (omega (arith, some refl))
some_bounded raw lists (a ∷ arcs) Pool there some =
    let n = some_shortest lists a arcs in
    let f = λ (t : ℕ). root_up_of (sum_by (asked_square lists t) (a ∷ arcs)) in (
      listed f n.0,
      record {
        long = subst (λ m. IsShortest lists (a ∷ arcs) m) (sym (length_listed f n.0)) n.1;
        each = each_listed (λ t x. IsRootUp (sum_by (asked_square lists t) (a ∷ arcs)) x) f n.0 (λ t. root_up_is (sum_by (asked_square lists t) (a ∷ arcs)));
      },
    )
