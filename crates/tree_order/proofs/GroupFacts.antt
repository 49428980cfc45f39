-- Groups: the stages that arcs join, one after the other.
use Rattle.std.proofs.Common.{ℕ, zero, suc, ◌≡◌, ◌<◌, ◌≤◌, List, length, get_or, sym, subst, ⊎_elim, refl, arith}
use Rattle.std.proofs.lemmas.Bool.{cases_eq, cases_lt}
use Rattle.service_model.specs.declared.stage.SupplyArc.{SupplyArc}
use Rattle.service_model.specs.Net.{arc_in}
use Rattle.service_model.specs.Forests.{AreNeighbours, Chain, SameGroup, IsFirstOfGroup}
use Rattle.tree_order.specs.Links.{JoinsStages}
use Rattle.tree_order.proofs.ArcFacts.{joins_back, neighbours_back}
use Rattle.tree_order.proofs.LinkFacts.{joined_low}
use Rattle.tree_order.proofs.PlaceFacts.{IsRootAt, IsChildAt, IsWalkOrder, find_child, place_of}

-- groups

pub group_of_neighbours : (arcs : List SupplyArc) (x y : ℕ) → AreNeighbours arcs x y → SameGroup arcs x y
group_of_neighbours arcs x y joined = (1, (x, refl, joined))

pub group_step : (arcs : List SupplyArc) (x y z : ℕ) → SameGroup arcs x y → AreNeighbours arcs y z → SameGroup arcs x z
group_step arcs x y z (n, chain) joined = (suc n, (y, chain, joined))

pub group_trans : (arcs : List SupplyArc) (x y z : ℕ) → SameGroup arcs x y → SameGroup arcs y z → SameGroup arcs x z
group_trans arcs x y z first (zero, same) = subst (λ v. SameGroup arcs x v) same first
group_trans arcs x y z first (suc n, (m, chain, joined)) = group_step arcs x m z (group_trans arcs x y m first (n, chain)) joined

pub group_back : (arcs : List SupplyArc) (x y : ℕ) → SameGroup arcs x y → SameGroup arcs y x
group_back arcs x y (zero, same) = (0, sym same)
group_back arcs x y (suc n, (m, chain, joined)) =
    group_trans arcs y m x (group_of_neighbours arcs y m (neighbours_back arcs m y joined)) (group_back arcs x m (n, chain))

-- a neighbour of a stage is a stage
pub neighbour_low : (stages : ℕ) (arcs : List SupplyArc) (x y : ℕ) → JoinsStages stages arcs → AreNeighbours arcs x y → x < stages
neighbour_low stages arcs x y ends (a, arc, joins) = joined_low stages arcs a y x ends arc (joins_back (arc_in arcs a) x y joins)

-- in the order by neighbours: the root of each place

-- place r has the root of the stage at place k
pub record IsRootOf (arcs : List SupplyArc) (seen : List ℕ) (k r : ℕ) : Type 0 where
  pub before : r ≤ k
  pub root : IsRootAt arcs seen r
  pub group : SameGroup arcs (get_or seen r 0) (get_or seen k 0)
  pub none_between : (s : ℕ) → r < s → s ≤ k → IsRootAt arcs seen s → ⊥

root_below : (stages : ℕ) (arcs : List SupplyArc) (seen : List ℕ) → IsWalkOrder stages arcs seen → (fuel k : ℕ) → k < fuel → k < length seen → (r : ℕ) × IsRootOf arcs seen k r
root_below stages arcs seen order zero k less inside = absurd (omega arith)
root_below stages arcs seen order (suc fuel) k less inside = ⊎_elim
    (λ root. (k, record { before = omega arith; root = root; group = (0, refl); none_between = λ s after before. absurd (omega (arith, after, before)) }))
    (λ c.
    let p = c.0 in
    let child = c.2 in
    let joined : AreNeighbours arcs (get_or seen c.0 0) (get_or seen k 0) = (c.1, child.arc, child.joins) in
    let up = root_below stages arcs seen order fuel c.0 (omega (arith, less, child.earlier)) (omega (arith, inside, child.earlier)) in (
      up.0,
      record {
        before = omega (arith, up.1.before, child.earlier);
        root = up.1.root;
        group = group_step arcs (get_or seen up.0 0) (get_or seen c.0 0) (get_or seen k 0) up.1.group joined;
        none_between = λ s after before root. ⊎_elim
            (λ low. ⊎_elim
            (λ same. root c.0 low (subst (λ v. AreNeighbours arcs (get_or seen c.0 0) (get_or seen v 0)) (sym same) joined))
            (λ other. order.together s k c.0 root (omega (arith, before, other)) inside low joined)
            (cases_eq s k))
            (λ high. up.1.none_between s after high root)
            (cases_lt c.0 s);
      },
    ))
    (find_child arcs seen k)

pub root_of : (stages : ℕ) (arcs : List SupplyArc) (seen : List ℕ) → IsWalkOrder stages arcs seen → (k : ℕ) → k < length seen → (r : ℕ) × IsRootOf arcs seen k r
root_of stages arcs seen order k inside = root_below stages arcs seen order (suc k) k (omega arith) inside

same_place : (stages : ℕ) (arcs : List SupplyArc) (seen : List ℕ) → IsWalkOrder stages arcs seen → (k m : ℕ) → k < length seen → m < length seen → get_or seen k 0 ≡ get_or seen m 0 → k ≡ m
same_place stages arcs seen order k m low high same = ⊎_elim
    (λ less. absurd (order.once k m less high same))
    (λ past. ⊎_elim (λ more. absurd (order.once m k more low (sym same))) (λ not_more. omega (arith, past, not_more)) (cases_lt m k))
    (cases_lt k m)

-- no chain leads from before a root to it or past it
chain_apart : (stages : ℕ) (arcs : List SupplyArc) (seen : List ℕ) → JoinsStages stages arcs → IsWalkOrder stages arcs seen → (r p : ℕ) → IsRootAt arcs seen r → p < r → (n m : ℕ) → r ≤ m → m < length seen
    → Chain arcs (get_or seen p 0) (get_or seen m 0) n → ⊥
chain_apart stages arcs seen ends order r p root before zero m after inside same = order.once p m (omega (arith, before, after)) inside same
chain_apart stages arcs seen ends order r p root before (suc n) m after inside (x, chain, joined) =
    let at = place_of seen x (order.each x (neighbour_low stages arcs x (get_or seen m 0) ends joined)) in
    let near : AreNeighbours arcs (get_or seen at.0 0) (get_or seen m 0) = subst (λ v. AreNeighbours arcs v (get_or seen m 0)) (sym at.1.is) joined in
    ⊎_elim
    (λ low. ⊎_elim
    (λ same. root at.0 low (subst (λ v. AreNeighbours arcs (get_or seen at.0 0) (get_or seen v 0)) (sym same) near))
    (λ other. order.together r m at.0 root (omega (arith, after, other)) inside low near)
    (cases_eq r m))
    (λ high. chain_apart stages arcs seen ends order r p root before n at.0 high at.1.inside (subst (λ v. Chain arcs (get_or seen p 0) v n) (sym at.1.is) chain))
    (cases_lt at.0 r)

pub group_apart : (stages : ℕ) (arcs : List SupplyArc) (seen : List ℕ) → JoinsStages stages arcs → IsWalkOrder stages arcs seen → (r p m : ℕ) → IsRootAt arcs seen r → p < r → r ≤ m → m < length seen
    → SameGroup arcs (get_or seen p 0) (get_or seen m 0) → ⊥
group_apart stages arcs seen ends order r p m root before after inside (n, chain) = chain_apart stages arcs seen ends order r p root before n m after inside chain

-- the roots are the first of their groups

pub first_from_root : (stages : ℕ) (arcs : List SupplyArc) (seen : List ℕ) → JoinsStages stages arcs → IsWalkOrder stages arcs seen → (k : ℕ) → k < length seen → IsRootAt arcs seen k → IsFirstOfGroup arcs seen k
first_from_root stages arcs seen ends order k inside root = λ p before group. group_apart stages arcs seen ends order k p k root before (omega arith) inside group

pub root_from_first : (arcs : List SupplyArc) (seen : List ℕ) (k : ℕ) → IsFirstOfGroup arcs seen k → IsRootAt arcs seen k
root_from_first arcs seen k first = λ p before joined. first p before (group_of_neighbours arcs (get_or seen p 0) (get_or seen k 0) joined)

pub child_not_first : (arcs : List SupplyArc) (seen : List ℕ) (k p a : ℕ) → IsChildAt arcs seen k p a → IsFirstOfGroup arcs seen k → ⊥
child_not_first arcs seen k p a child first = first p child.earlier (group_of_neighbours arcs (get_or seen p 0) (get_or seen k 0) (a, child.arc, child.joins))

-- one root for each group
pub roots_agree : (stages : ℕ) (arcs : List SupplyArc) (seen : List ℕ) → JoinsStages stages arcs → IsWalkOrder stages arcs seen → (k m r s : ℕ) → k < length seen → m < length seen → IsRootOf arcs seen k r → IsRootOf arcs seen m s
    → SameGroup arcs (get_or seen k 0) (get_or seen m 0) → r ≡ s
roots_agree stages arcs seen ends order k m r s low high up up' group = ⊎_elim
    (λ less. absurd (group_apart stages arcs seen ends order s r m up'.root less up'.before high (group_trans arcs (get_or seen r 0) (get_or seen k 0) (get_or seen m 0) up.group group)))
    (λ past. ⊎_elim
    (λ more. absurd (group_apart stages arcs seen ends order r s k up.root more up.before low (group_trans arcs (get_or seen s 0) (get_or seen m 0) (get_or seen k 0) up'.group (group_back arcs (get_or seen k 0) (get_or seen m 0) group))))
    (λ not_more. omega (arith, past, not_more))
    (cases_lt s r))
    (cases_lt r s)

-- what stands between two of a group is of the group
pub group_together : (stages : ℕ) (arcs : List SupplyArc) (seen : List ℕ) → JoinsStages stages arcs → IsWalkOrder stages arcs seen → (k l m : ℕ) → k < l → l < m → m < length seen → SameGroup arcs (get_or seen k 0) (get_or seen m 0)
    → SameGroup arcs (get_or seen k 0) (get_or seen l 0)
group_together stages arcs seen ends order k l m less less' inside group =
    let at_k = root_of stages arcs seen order k (omega (arith, less, less', inside)) in
    let at_l = root_of stages arcs seen order l (omega (arith, less', inside)) in
    let at_m = root_of stages arcs seen order m inside in
    let same = roots_agree stages arcs seen ends order k m at_k.0 at_m.0 (omega (arith, less, less', inside)) inside at_k.1 at_m.1 group in
    let here : at_k.0 ≡ at_l.0 = ⊎_elim
    (λ low. absurd (at_m.1.none_between at_l.0 (omega (arith, low, same)) (omega (arith, at_l.1.before, less')) at_l.1.root))
    (λ past. ⊎_elim
    (λ high. absurd (at_l.1.none_between at_k.0 high (omega (arith, at_k.1.before, less)) at_k.1.root))
    (λ not_high. omega (arith, past, not_high))
    (cases_lt at_l.0 at_k.0))
    (cases_lt at_k.0 at_l.0) in
    group_trans arcs (get_or seen k 0) (get_or seen at_k.0 0) (get_or seen l 0) (group_back arcs (get_or seen at_k.0 0) (get_or seen k 0) at_k.1.group) (subst (λ v. SameGroup arcs (get_or seen v 0) (get_or seen l 0)) (sym here) at_l.1.group)
