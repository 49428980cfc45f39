-- The excess demand under a bound: there is one, and it depends on those of the customers alone.
use Rattle.std.proofs.Common.{ℕ, ◌≡◌, ◌*◌, ◌≤◌, List, [], ◌∷◌, length, get_or, refl, sym, ap, ◌∙◌, subst, arith}
use Rattle.std.specs.Prelude.{All}
use Rattle.std.specs.List.{sum_by}
use Rattle.std.proofs.lemmas.List.{ext_get_or}
use Rattle.std.proofs.lemmas.List.Elements.{All-head, All-tail}
use Rattle.std.proofs.lemmas.List.Sums.{sum_by-cons}
use Rattle.std.proofs.lemmas.Option.{same_Some}
use Rattle.gsm_nums.specs.Root.{IsRootUp}
use Rattle.gsm_nums.proofs.RootFacts.{same_root}
use Rattle.stage_file.specs.declared.stages.Bound.{Bound}
use Rattle.stage_file.specs.declared.stages.Bound.TheVariants.{Named, Normal, Sum, Pool}
use Rattle.stage_file.specs.declared.arcs.ArcRow.{ArcRow}
use Rattle.stage_file.specs.declared.raw.RawNet.{RawNet}
use Rattle.demand_tables.specs.Demand.{excess_at, asked, asked_square, IsShortest, IsBounded}

sum_agree : {X : Type 0} (f g : X → ℕ) (xs : List X) → All (λ x. f x ≡ g x) xs → sum_by f xs ≡ sum_by g xs
sum_agree f g [] same = refl
sum_agree f g (x ∷ xs) same =
    let head : f x ≡ g x = All-head (λ y. f y ≡ g y) x xs same in
    let tail : sum_by f xs ≡ sum_by g xs = sum_agree f g xs (All-tail (λ y. f y ≡ g y) x xs same) in
    omega (arith, sum_by-cons f x xs, sum_by-cons g x xs, head, tail)

module _ (lists others : List (List ℕ)) (arcs : List ArcRow) (same : All (λ a. excess_at lists a.customer ≡ excess_at others a.customer) arcs) where
  asked_same : (t : ℕ) → All (λ a. asked lists t a ≡ asked others t a) arcs
  asked_same t k d inside = ap (λ (xs : List ℕ). (get_or arcs k d).quantity * get_or xs t 0) (same k d inside)

  square_same : (t : ℕ) → All (λ a. asked_square lists t a ≡ asked_square others t a) arcs
  square_same t k d inside = ap (λ n. n * n) (asked_same t k d inside)

  shortest_moved : (n : ℕ) → IsShortest lists arcs n → IsShortest others arcs n
  shortest_moved n s =
      let (at, a, low, is, long) = s.reached in
      record {
        reached = (at, a, low, is, sym (ap length (subst (λ (x : ArcRow). excess_at lists x.customer ≡ excess_at others x.customer) is (same at a low))) ∙ long);
        least = λ k d inside. subst (λ (xs : List ℕ). n ≤ length xs) (same k d inside) (s.least k d inside);
      }

  -- the excess demand stays where those of the customers do
  pub bounded_moved : (raw : RawNet) (bound : Bound) (xs : List ℕ) → IsBounded raw lists arcs bound xs → IsBounded raw others arcs bound xs
  bounded_moved raw (Named name) xs is = is
  bounded_moved raw (Normal factor) xs is = is
  bounded_moved raw Sum xs is = record {
    long = shortest_moved (length xs) is.long;
    each = λ t inside. is.each t inside ∙ sum_agree (asked lists t) (asked others t) arcs (asked_same t);
  }
  bounded_moved raw Pool xs is = record {
    long = shortest_moved (length xs) is.long;
    each = λ t inside. subst (λ n. IsRootUp n (get_or xs t 0)) (sum_agree (asked_square lists t) (asked_square others t) arcs (square_same t)) (is.each t inside);
  }

-- one length alone is the shortest
one_shortest : (lists : List (List ℕ)) (arcs : List ArcRow) (m n : ℕ) → IsShortest lists arcs m → IsShortest lists arcs n → m ≡ n
one_shortest lists arcs m n first second = omega (arith, half m n first second, half n m second first)
  where
    half : (m n : ℕ) → IsShortest lists arcs m → IsShortest lists arcs n → m ≤ n
    half m n first second =
        let (at, a, low, is, long) = second.reached in
        let le : m ≤ length (excess_at lists a.customer) = subst (λ (x : ArcRow). m ≤ length (excess_at lists x.customer)) is (first.least at a low) in
        omega (arith, le, long)

-- there is one excess demand at most
pub one_bounded : (raw : RawNet) (lists : List (List ℕ)) (arcs : List ArcRow) (bound : Bound) (xs ys : List ℕ) → IsBounded raw lists arcs bound xs → IsBounded raw lists arcs bound ys → xs ≡ ys
one_bounded raw lists arcs (Named name) xs ys first second = same_Some xs ys (sym first ∙ second)
one_bounded raw lists arcs (Normal factor) xs ys first second =
    let long : length xs ≡ length ys = first.long ∙ sym second.long in
    ext_get_or 0 xs ys long (λ t inside. same_root (factor * factor * t) (get_or xs t 0) (get_or ys t 0) (first.each t inside) (second.each t (omega (arith, inside, long))))
one_bounded raw lists arcs Sum xs ys first second =
    let long : length xs ≡ length ys = one_shortest lists arcs (length xs) (length ys) first.long second.long in
    ext_get_or 0 xs ys long (λ t inside. first.each t inside ∙ sym (second.each t (omega (arith, inside, long))))
one_bounded raw lists arcs Pool xs ys first second =
    let long : length xs ≡ length ys = one_shortest lists arcs (length xs) (length ys) first.long second.long in
    ext_get_or 0 xs ys long (λ t inside. same_root (sum_by (asked_square lists t) arcs) (get_or xs t 0) (get_or ys t 0) (first.each t inside) (second.each t (omega (arith, inside, long))))
