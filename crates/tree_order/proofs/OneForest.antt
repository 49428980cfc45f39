-- There is one forest of a network.
use Rattle.std.proofs.Common.{ℕ, zero, suc, ◌≡◌, ◌<◌, ◌≤◌, List, [], ◌∷◌, length, get_or, reverse, refl, sym, ap, ◌∙◌, subst, inl, inr, ⊎_elim, arith}
use Rattle.std.specs.Prelude.{AllPairs, Contains}
use Rattle.std.proofs.lemmas.Bool.{cases_lt}
use Rattle.std.proofs.lemmas.List.{ext_get_or, reverse-reverse}
use Rattle.service_model.specs.declared.stage.SupplyArc.{SupplyArc}
use Rattle.service_model.specs.Net.{Net, arc_in}
use Rattle.service_model.specs.Networks.{IsNetwork}
use Rattle.service_model.specs.Forests.{IsSeenOrder, IsParentAt, IsWalk, IsChildOf, IsKept, ArePicked, ArePickedFor}
use Rattle.tree_order.specs.declared.forest.Forest.{Forest}
use Rattle.tree_order.specs.Forest.{IsForest}
use Rattle.tree_order.specs.Links.{JoinsStages}
use Rattle.tree_order.proofs.ArcFacts.{joins_stages}
use Rattle.tree_order.proofs.PlaceFacts.{place_of}
use Rattle.tree_order.proofs.NextFacts.{seen_once}
use Rattle.tree_order.proofs.GroupFacts.{group_of_neighbours}
use Rattle.tree_order.proofs.OrderFacts.{walk_back}
use Rattle.tree_order.proofs.StepsBack.{steps_from}

-- the order is the only one
pub one_order : (stages : ℕ) (arcs : List SupplyArc) (seen other : List ℕ) → JoinsStages stages arcs → IsSeenOrder stages arcs seen → IsSeenOrder stages arcs other → seen ≡ other
one_order stages arcs seen other ends order order' =
    seen_once stages arcs seen other ends (steps_from stages arcs seen ends (walk_back stages arcs seen ends order)) (steps_from stages arcs other ends (walk_back stages arcs other ends order')) order.each_once.each order'.each_once.each

-- and so are the parents

same_parent : (arcs : List SupplyArc) (seen : List ℕ) (k x y : ℕ) → IsParentAt arcs seen k x → IsParentAt arcs seen k y → x ≡ y
same_parent arcs seen k x y (inl root) (inl root') = root.1 ∙ sym root'.1
same_parent arcs seen k x y (inl root) (inr (p, a, tie, before, is)) = absurd (root.0 p before (group_of_neighbours arcs (get_or seen p 0) (get_or seen k 0) (a, tie.arc, tie.joins)))
same_parent arcs seen k x y (inr (p, a, tie, before, is)) (inl root) = absurd (root.0 p before (group_of_neighbours arcs (get_or seen p 0) (get_or seen k 0) (a, tie.arc, tie.joins)))
same_parent arcs seen k x y (inr (p, a, tie, before, is)) (inr (q, b, tie', before', is')) =
    let same : p ≡ q = ⊎_elim
    (λ less. absurd (tie'.first p less (a, tie.arc, tie.joins)))
    (λ past. ⊎_elim (λ more. absurd (tie.first q more (b, tie'.arc, tie'.joins))) (λ not_more. omega (arith, past, not_more)) (cases_lt q p))
    (cases_lt p q) in
    is ∙ ap (λ v. get_or seen v 0) same ∙ sym is'

one_parent : (stages : ℕ) (arcs : List SupplyArc) (seen parent other : List ℕ) → IsWalk stages arcs seen parent → IsWalk stages arcs seen other → parent ≡ other
one_parent stages arcs seen parent other walk walk' =
    ext_get_or 0 parent other (walk.long ∙ sym walk'.long) (λ j inside.
    let at = place_of seen j (walk.order.each_once.each j (omega (arith, inside, walk.long))) in
    subst (λ v. get_or parent v 0 ≡ get_or other v 0) at.1.is (same_parent arcs seen at.0 (get_or parent (get_or seen at.0 0) 0) (get_or other (get_or seen at.0 0) 0) (walk.parents at.0 at.1.inside) (walk'.parents at.0 at.1.inside)))

-- picked numbers are one list

head_low : (x : ℕ) (xs : List ℕ) (j : ℕ) → AllPairs (λ i k. i < k) (x ∷ xs) → Contains (x ∷ xs) j → x ≤ j
head_low x xs j rising (zero, inside, is) = omega (arith, is)
head_low x xs j rising (suc k, inside, is) = let less = rising 0 (suc k) j (omega arith) inside in omega (arith, less, is)

tail_rising : (x : ℕ) (xs : List ℕ) → AllPairs (λ i k. i < k) (x ∷ xs) → AllPairs (λ i k. i < k) xs
tail_rising x xs rising = λ i k d less inside. rising (suc i) (suc k) d (omega (arith, less)) (omega (arith, inside))

tail_has : (x : ℕ) (xs : List ℕ) (j : ℕ) → AllPairs (λ i k. i < k) (x ∷ xs) → Contains xs j → (x < j) × Contains (x ∷ xs) j
tail_has x xs j rising (k, inside, is) =
    let less = rising 0 (suc k) j (omega arith) (omega (arith, inside)) in
    (omega (arith, less, is), (suc k, omega (arith, inside), is))

not_head : (x : ℕ) (xs : List ℕ) (j : ℕ) → x < j → Contains (x ∷ xs) j → Contains xs j
not_head x xs j less (zero, inside, is) = absurd (omega (arith, less, is))
not_head x xs j less (suc k, inside, is) = (k, omega (arith, inside), is)

pub one_rising : (xs ys : List ℕ) → AllPairs (λ i k. i < k) xs → AllPairs (λ i k. i < k) ys → ((j : ℕ) → Contains xs j → Contains ys j) → ((j : ℕ) → Contains ys j → Contains xs j) → xs ≡ ys
one_rising [] [] rising rising' there back = refl
one_rising [] (y ∷ ys) rising rising' there back = let h = back y (0, omega arith, refl) in absurd (omega (arith, h.1))
one_rising (x ∷ xs) [] rising rising' there back = let h = there x (0, omega arith, refl) in absurd (omega (arith, h.1))
one_rising (x ∷ xs) (y ∷ ys) rising rising' there back =
    let low = head_low y ys x rising' (there x (0, omega arith, refl)) in
    let low' = head_low x xs y rising (back y (0, omega arith, refl)) in
    let same : x ≡ y = omega (arith, low, low') in
    let rest = one_rising xs ys (tail_rising x xs rising) (tail_rising y ys rising')
    (λ j h. let t = tail_has x xs j rising h in not_head y ys j (omega (arith, t.0, same)) (there j t.1))
    (λ j h. let t = tail_has y ys j rising' h in not_head x xs j (omega (arith, t.0, same)) (back j t.1)) in
    ap (λ v. v ∷ xs) same ∙ ap (λ (v : List ℕ). y ∷ v) rest

picked_there : (P : ℕ → Type 0) (n : ℕ) (xs ys : List ℕ) → ArePicked P n xs → ArePicked P n ys → (j : ℕ) → Contains xs j → Contains ys j
picked_there P n xs ys one two j h = two.all j (subst (λ v. v < n) h.2 (one.low h.0 j h.1)) (one.only j h)

pub one_picked : (P : ℕ → Type 0) (n : ℕ) (xs ys : List ℕ) → ArePicked P n xs → ArePicked P n ys → xs ≡ ys
one_picked P n xs ys one two = one_rising xs ys one.rising two.rising (picked_there P n xs ys one two) (picked_there P n ys xs two one)

one_lists : (P : ℕ → ℕ → Type 0) (count n : ℕ) (lists other : List (List ℕ)) → ArePickedFor P count n lists → ArePickedFor P count n other → lists ≡ other
one_lists P count n lists other one two =
    ext_get_or [] lists other (one.long ∙ sym two.long) (λ i inside.
    let low : i < count = omega (arith, inside, one.long) in
    one_picked (P i) n (get_or lists i []) (get_or other i []) (one.each i low) (two.each i low))

-- the forest is the only one
pub one_forest : (n : Net) (f g : Forest) → IsNetwork n → IsForest (length n.stages) n.arcs f → IsForest (length n.stages) n.arcs g → f ≡ g
one_forest n f g valid one two =
    let stages = length n.stages in
    let seen = one_order stages n.arcs (reverse f.order) (reverse g.order) (joins_stages n valid) one.walk.order two.walk.order in
    let order : f.order ≡ g.order = sym (reverse-reverse f.order) ∙ ap reverse seen ∙ reverse-reverse g.order in
    let walk = subst (λ (s : List ℕ). IsWalk stages n.arcs s g.parent) (sym seen) two.walk in
    let parent : f.parent ≡ g.parent = one_parent stages n.arcs (reverse f.order) f.parent g.parent one.walk walk in
    let lists = subst (λ (p : List ℕ). ArePickedFor (IsChildOf p) stages stages g.children) (sym parent) two.children in
    let children : f.children ≡ g.children = one_lists (IsChildOf f.parent) stages stages f.children g.children one.children lists in
    let numbers = subst (λ (p : List ℕ). ArePicked (λ a. ¬ IsKept p (arc_in n.arcs a)) (length n.arcs) g.dropped) (sym parent) two.dropped in
    let dropped : f.dropped ≡ g.dropped = one_picked (λ a. ¬ IsKept f.parent (arc_in n.arcs a)) (length n.arcs) f.dropped g.dropped one.dropped numbers in
    same_record f g parent children order dropped
  where
    same_record : (f g : Forest) → f.parent ≡ g.parent → f.children ≡ g.children → f.order ≡ g.order → f.dropped ≡ g.dropped → f ≡ g
    same_record f g parent children order dropped i = record { parent = parent i; children = children i; order = order i; dropped = dropped i }
