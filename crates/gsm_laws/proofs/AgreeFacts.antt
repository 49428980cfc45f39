-- Tables of different stages, and plans that agree at the stages of tables.
use Rattle.std.proofs.Common.{◌≡◌, ◌≢◌, ℕ, zero, suc, ◌<◌, ◌≤◌, List, [], ◌∷◌, ◌++◌, length, get_or, map, refl, sym, ap, ◌∙◌, arith}
use Rattle.std.specs.Prelude.{All}
use Rattle.std.specs.List.{flat_map, AllByRecursion}
use Rattle.std.proofs.lemmas.List.Sums.{sum_by-cons}
use Rattle.service_model.specs.declared.plan.Plan.{Plan}
use Rattle.service_model.specs.declared.table.Kind.{Kind}
use Rattle.service_model.specs.declared.table.Kind.TheVariants.{Down, Up, Root}
use Rattle.service_model.specs.declared.table.Table.{Table}
use Rattle.service_model.specs.Net.{Net, stage_at}
use Rattle.service_model.specs.Plans.{inbound_at, outbound_at, stage_cost, charge}
use Rattle.service_model.specs.Tables.{table_at}
use Rattle.service_model.specs.Nodes.{below_within, Holds, IsTightAt, IsOnce, MeetsChild}
use Rattle.gsm_laws.specs.Traces.{IsAbsent, SameAt, TracedWithin, cost_at}
use Rattle.gsm_laws.proofs.ElementFacts.{all_append}
use Rattle.gsm_laws.proofs.BelowFacts.{itself, earlier_from_sound, sound_from_tight}

-- no two of the tables have one stage
abbrev pub Apart : List Table → List ℕ → Type 0
Apart tables [] = Unit {0}
Apart tables (k ∷ ks) = IsAbsent tables (table_at tables k).stage ks × Apart tables ks

absent_from_all : (tables : List Table) (j : ℕ) (ks : List ℕ) → All (λ s. s ≢ j) (map (λ k. (table_at tables k).stage) ks) → IsAbsent tables j ks
absent_from_all tables j [] all = tt
absent_from_all tables j (k ∷ ks) all = (all 0 0 (omega arith), absent_from_all tables j ks (λ a d within. all (suc a) d (omega arith)))

pub apart_from_once : (tables : List Table) (ks : List ℕ) → IsOnce tables ks → Apart tables ks
apart_from_once tables [] pairs = tt
apart_from_once tables (k ∷ ks) pairs = (
  absent_from_all tables (table_at tables k).stage ks (λ a d within same. pairs 0 (suc a) d (omega arith) (omega arith) (sym same)),
  apart_from_once tables ks (λ a b d less within. pairs (suc a) (suc b) d (omega arith) (omega arith)),
)

absent_each : (tables : List Table) (j : ℕ) (ks : List ℕ) → IsAbsent tables j ks
    → (a d : ℕ) → a < length (map (λ k. (table_at tables k).stage) ks) → get_or (map (λ k. (table_at tables k).stage) ks) a d ≢ j
absent_each tables j [] absent a d within = absurd (omega arith)
absent_each tables j (k ∷ ks) absent zero d within = absent.0
absent_each tables j (k ∷ ks) absent (suc a) d within = absent_each tables j ks absent.1 a d (omega arith)

pub once_from_apart : (tables : List Table) (ks : List ℕ) → Apart tables ks → IsOnce tables ks
once_from_apart tables [] apart a b d less within = absurd (omega arith)
once_from_apart tables (k ∷ ks) apart a zero d less within = absurd (omega arith)
once_from_apart tables (k ∷ ks) apart zero (suc b) d less within = λ same. absent_each tables (table_at tables k).stage ks apart.0 b d (omega arith) (sym same)
once_from_apart tables (k ∷ ks) apart (suc a) (suc b) d less within = once_from_apart tables ks apart.1 a b d (omega arith) (omega arith)

pub apart_append : (tables : List Table) (xs ys : List ℕ) → Apart tables (xs ++ ys)
    → Apart tables xs × Apart tables ys × AllByRecursion (λ k. IsAbsent tables (table_at tables k).stage ys) xs
apart_append tables [] ys apart = (tt, apart, tt)
apart_append tables (x ∷ xs) ys apart =
    let first = all_append (λ k. (table_at tables k).stage ≢ (table_at tables x).stage) xs ys apart.0 in
    let rest = apart_append tables xs ys apart.1 in
    ((first.0, rest.0), rest.1, (first.1, rest.2))

-- the plans p and q have the same times at the stages of these tables
abbrev pub AgreeAt : List Table → Plan → Plan → List ℕ → Type 0
AgreeAt tables p q ks = AllByRecursion (λ k. SameAt p q (table_at tables k).stage) ks

same_cost : (n : Net) (p q : Plan) (j : ℕ) → SameAt p q j → stage_cost n q j ≡ stage_cost n p j
same_cost n p q j same =
    ap (λ i. charge (stage_at n j).lead (stage_at n j).cost i (outbound_at q j)) same.0
    ∙ ap (λ o. charge (stage_at n j).lead (stage_at n j).cost (inbound_at p j) o) same.1

pub same_sum : (n : Net) (tables : List Table) (p q : Plan) (ks : List ℕ) → AgreeAt tables p q ks → cost_at n q tables ks ≡ cost_at n p tables ks
same_sum n tables p q [] same = refl
same_sum n tables p q (k ∷ ks) same =
    let rest = same_sum n tables p q ks same.1 in
    let first = same_cost n p q (table_at tables k).stage same.0 in
    let left = sum_by-cons (λ m. stage_cost n q (table_at tables m).stage) k ks in
    let right = sum_by-cons (λ m. stage_cost n p (table_at tables m).stage) k ks in
    omega (arith, rest, first, left, right)

same_holds : (n : Net) (p q : Plan) (t : Table) → SameAt p q t.stage → Holds n p t → Holds n q t
same_holds n p q t same holds = record {
  not_early = omega (arith, same.1, holds.not_early);
  not_late = omega (arith, same.1, holds.not_late);
  not_below = omega (arith, same.0, holds.not_below);
  not_above = omega (arith, same.0, holds.not_above);
}

pub same_meets : (kind : Kind) (n : Net) (p q : Plan) (c j : ℕ) → SameAt p q c → SameAt p q j → MeetsChild kind n.arcs p c j → MeetsChild kind n.arcs q c j
same_meets Down n p q c j child parent meets = omega (arith, child.1, parent.0, meets)
same_meets Up n p q c j child parent meets = omega (arith, child.0, parent.1, meets)
same_meets Root n p q c j child parent meets = meets

same_children : (n : Net) (tables : List Table) (p q : Plan) (t : Table) (steps i : ℕ)
    → ((c : ℕ) → c < steps → AllByRecursion (IsTightAt n tables) (below_within steps tables c) → AgreeAt tables p q (below_within steps tables c)
    → TracedWithin steps n tables p c → TracedWithin steps n tables q c)
    → i ≤ steps → SameAt p q t.stage → (cs : List ℕ) → AllByRecursion (λ c. c < i) cs
    → AllByRecursion (IsTightAt n tables) (flat_map (below_within steps tables) cs) → AgreeAt tables p q (flat_map (below_within steps tables) cs)
    → AllByRecursion (λ c. MeetsChild (table_at tables c).kind n.arcs p (table_at tables c).stage t.stage × TracedWithin steps n tables p c) cs
    → AllByRecursion (λ c. MeetsChild (table_at tables c).kind n.arcs q (table_at tables c).stage t.stage × TracedWithin steps n tables q c) cs
same_children n tables p q t steps i again low here [] earlier known same traced = tt
same_children n tables p q t steps i again low here (c ∷ cs) earlier known same traced =
    let knowns = all_append (IsTightAt n tables) (below_within steps tables c) (flat_map (below_within steps tables) cs) known in
    let parts = all_append (λ k. SameAt p q (table_at tables k).stage) (below_within steps tables c) (flat_map (below_within steps tables) cs) same in
    let less : c < steps = omega (arith, earlier.0) in
    let child = itself (λ k. SameAt p q (table_at tables k).stage) tables steps c less parts.0 in (
      (
        same_meets (table_at tables c).kind n p q (table_at tables c).stage t.stage child here traced.0.0,
        again c less knowns.0 parts.0 traced.0.1,
      ),
      same_children n tables p q t steps i again low here cs earlier.1 knowns.1 parts.1 traced.1,
    )

-- a plan that agrees with a traced one is traced
pub same_traced : (n : Net) (tables : List Table) (p q : Plan) (steps i : ℕ) → i < steps → AllByRecursion (IsTightAt n tables) (below_within steps tables i)
    → AgreeAt tables p q (below_within steps tables i) → TracedWithin steps n tables p i → TracedWithin steps n tables q i
same_traced n tables p q zero i low known same traced = absurd (omega arith)
same_traced n tables p q (suc steps) i low known same traced = (
  same_holds n p q (table_at tables i) same.0 traced.0,
  same_children n tables p q (table_at tables i) steps i (same_traced n tables p q steps) (omega arith) same.0
      (table_at tables i).children (earlier_from_sound n tables i (sound_from_tight n tables i known.0)) known.1 same.1 traced.1,
)
