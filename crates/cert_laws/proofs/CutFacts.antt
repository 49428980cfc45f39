-- The ranges of a certificate's nodes, cut after cut.
use Rattle.std.proofs.Common.{◌≡◌, ℕ, zero, suc, ◌+◌, ◌-◌, ◌*◌, ◌<◌, ◌≤◌, List, [], ◌∷◌, ◌++◌, length, take, refl, sym, ap, ◌∙◌, subst, inl, inr, ⊎_elim, add-one, arith}
use Rattle.std.specs.Prelude.{◌⊎◌}
use Rattle.std.proofs.lemmas.Bool.{cases_eq, cases_lt}
use Rattle.std.proofs.lemmas.List.{length-append, length-map, length-set, length_push, get_or_append_left, get_or-append_right, get_or_at, take_more, take_all}
use Rattle.service_model.specs.declared.range.Range.{Range}
use Rattle.service_model.specs.Net.{Net}
use Rattle.service_model.specs.Ranges.{whole_of, ended, started}
use Rattle.service_model.specs.CertRanges.{Cut, no_cut, cut_at, no_range, range_at, with_halves, with_cuts, ranges_of, node_range, IsCut, AreCuts}

-- ---- lists of ranges
with_cuts-append : (ranges : List Range) (xs ys : List Cut) → with_cuts ranges (xs ++ ys) ≡ with_cuts (with_cuts ranges xs) ys
with_cuts-append ranges [] ys = refl
with_cuts-append ranges (c ∷ xs) ys = with_cuts-append (with_halves ranges c) xs ys

length-with_cuts : (ranges : List Range) (cuts : List Cut) → length (with_cuts ranges cuts) ≡ length ranges + 2 * length cuts
length-with_cuts ranges [] = omega arith
length-with_cuts ranges (c ∷ cuts) =
    let rest = length-with_cuts (with_halves ranges c) cuts in
    let two : length (with_halves ranges c) ≡ length ranges + 2 = rw length-append refl in
    omega (arith, rest, two)

-- there is a range for each node
pub length-ranges_of : (n : Net) (cuts : List Cut) → length (ranges_of n cuts) ≡ 2 * length cuts + 1
length-ranges_of n cuts = let long = length-with_cuts (whole_of n ∷ []) cuts in omega (arith, long)

old_range : (ranges : List Range) (c : Cut) (k : ℕ) → k < length ranges → range_at (with_halves ranges c) k ≡ range_at ranges k
old_range ranges c k within = get_or_append_left ranges _ no_range k within

left_range : (ranges : List Range) (c : Cut) → range_at (with_halves ranges c) (length ranges) ≡ ended (range_at ranges c.node) c.stage c.last
left_range ranges c = get_or_at ranges _ _ no_range (length ranges) refl

right_range : (ranges : List Range) (c : Cut) → range_at (with_halves ranges c) (length ranges + 1) ≡ started (range_at ranges c.node) c.stage c.last
right_range ranges c =
    let halves = ended (range_at ranges c.node) c.stage c.last ∷ started (range_at ranges c.node) c.stage c.last ∷ [] in
    let past = get_or-append_right ranges halves (length ranges) (length ranges + 1) no_range refl (omega arith) in
    let one : length ranges + 1 - length ranges ≡ 1 = omega arith in
    rw one at past

-- ---- one cut more
ranges_of_more : (n : Net) (earlier : List Cut) (c : Cut) → ranges_of n (earlier ++ c ∷ []) ≡ with_halves (ranges_of n earlier) c
ranges_of_more n earlier c = with_cuts-append (whole_of n ∷ []) earlier (c ∷ [])

pub more_cuts : (earlier : List Cut) (c : Cut) → length (earlier ++ c ∷ []) ≡ length earlier + 1
more_cuts earlier c = length_push earlier c

-- the earlier nodes keep their ranges
pub old_node : (n : Net) (earlier : List Cut) (c : Cut) (k : ℕ) → k < 2 * length earlier + 1
    → node_range n (earlier ++ c ∷ []) k ≡ node_range n earlier k
old_node n earlier c k within =
    ap (λ ranges. range_at ranges k) (ranges_of_more n earlier c) ∙ old_range (ranges_of n earlier) c k (omega (arith, length-ranges_of n earlier))

-- the next node has the range's left half
pub left_node : (n : Net) (earlier : List Cut) (c : Cut)
    → node_range n (earlier ++ c ∷ []) (2 * length earlier + 1) ≡ ended (node_range n earlier c.node) c.stage c.last
left_node n earlier c =
    ap (λ ranges. range_at ranges (2 * length earlier + 1)) (ranges_of_more n earlier c)
    ∙ ap (range_at (with_halves (ranges_of n earlier) c)) (sym (length-ranges_of n earlier))
    ∙ left_range (ranges_of n earlier) c

-- the node after it has the right half
pub right_node : (n : Net) (earlier : List Cut) (c : Cut)
    → node_range n (earlier ++ c ∷ []) (2 * length earlier + 2) ≡ started (node_range n earlier c.node) c.stage c.last
right_node n earlier c =
    let place : 2 * length earlier + 2 ≡ length (ranges_of n earlier) + 1 = omega (arith, length-ranges_of n earlier) in
    ap (λ ranges. range_at ranges (2 * length earlier + 2)) (ranges_of_more n earlier c)
    ∙ ap (range_at (with_halves (ranges_of n earlier) c)) place
    ∙ right_range (ranges_of n earlier) c

-- a node after one cut more is an earlier one, or the left or the right half
pub old_left_right : (earlier : List Cut) (c : Cut) (k : ℕ) → k < 2 * length (earlier ++ c ∷ []) + 1
    → (k < 2 * length earlier + 1) ⊎ ((k ≡ 2 * length earlier + 1) ⊎ (k ≡ 2 * length earlier + 2))
old_left_right earlier c k within = ⊎_elim
    (λ low. inl low)
    (λ high. ⊎_elim (λ is. inr (inl is)) (λ other. inr (inr (omega (arith, more_cuts earlier c)))) (cases_eq k (2 * length earlier + 1)))
    (cases_lt k (2 * length earlier + 1))

-- ---- all cuts
fronts : (n : Net) (P : List Cut → Type 0) → P [] → ((earlier : List Cut) (c : Cut) → IsCut n earlier c → P earlier → P (earlier ++ c ∷ []))
    → (cuts : List Cut) → AreCuts n cuts → (m : ℕ) → m ≤ length cuts → P (take m cuts)
fronts n P none more cuts are zero few = none
fronts n P none more cuts are (suc m) few =
    let grown : take (suc m) cuts ≡ take m cuts ++ cut_at cuts m ∷ [] = rw (← add-one) (take_more cuts m no_cut (omega arith)) in
    subst P (sym grown) (more (take m cuts) (cut_at cuts m) (are m (omega arith)) (fronts n P none more cuts are m (omega arith)))

-- what holds of no cuts, and stays with each cut more, holds of all cuts
pub by_cuts : (n : Net) (P : List Cut → Type 0) → P [] → ((earlier : List Cut) (c : Cut) → IsCut n earlier c → P earlier → P (earlier ++ c ∷ []))
    → (cuts : List Cut) → AreCuts n cuts → P cuts
by_cuts n P none more cuts are = subst P (take_all (length cuts) cuts (omega arith)) (fronts n P none more cuts are (length cuts) (omega arith))

-- ---- the lengths of ranges
-- the range has an interval for each stage
abbrev pub IsLong : Net → Range → Type 0
IsLong n r = (length r.least ≡ length n.stages) × (length r.most ≡ length n.stages)

-- each node's range has an interval for each stage
abbrev pub AllLong : Net → List Cut → Type 0
AllLong n cuts = (k : ℕ) → k < 2 * length cuts + 1 → IsLong n (node_range n cuts k)

pub long_start : (n : Net) → AllLong n []
long_start n k within =
    let first : 0 ≡ k = omega arith in
    subst (λ i. IsLong n (node_range n [] i)) first (length-map n.stages (λ s. s.least), length-map n.stages (λ s. s.most))

pub long_more : (n : Net) (earlier : List Cut) (c : Cut) → IsCut n earlier c → AllLong n earlier → AllLong n (earlier ++ c ∷ [])
long_more n earlier c cut long k within =
    let node = long c.node cut.leaf.there in
    ⊎_elim
    (λ low. subst (IsLong n) (sym (old_node n earlier c k low)) (long k low))
    (⊎_elim
    (λ is.
    subst (IsLong n) (sym (ap (node_range n (earlier ++ c ∷ [])) is ∙ left_node n earlier c))
    (node.0, length-set (node_range n earlier c.node).most c.stage c.last ∙ node.1))
    (λ is.
    subst (IsLong n) (sym (ap (node_range n (earlier ++ c ∷ [])) is ∙ right_node n earlier c))
    (length-set (node_range n earlier c.node).least c.stage (c.last + 1) ∙ node.0, node.1)))
    (old_left_right earlier c k within)

pub ranges_long : (n : Net) (cuts : List Cut) → AreCuts n cuts → AllLong n cuts
ranges_long n cuts are = by_cuts n (AllLong n) (long_start n) (long_more n) cuts are
