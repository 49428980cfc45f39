-- The first of the rules on splits that fails, by what is known of the node that is split next.
use Rattle.std.proofs.Common.{◌≡◌, ◌≢◌, ℕ, ◌+◌, ◌<◌, ◌≤◌, ◌==◌, Bool, true, false, List, Option, Some, None, refl, sym, ap, ◌∙◌, subst, arith}
use Rattle.std.specs.Prelude.{MatchBool, ⊤, unwrap_or, IfSome}
use Rattle.std.proofs.lemmas.Bool.{eqb-true}
use Rattle.service_model.specs.declared.cert_rules.TheConstants.{SPLIT_NODE, SPLIT_LATE, SPLIT_PLAN, SPLIT_ARC}
use Rattle.service_model.specs.declared.plan.Plan.{Plan}
use Rattle.service_model.specs.declared.range.Range.{Range}
use Rattle.service_model.specs.declared.table.Table.{Table}
use Rattle.service_model.specs.declared.cert.Node.{Node}
use Rattle.service_model.specs.declared.cert.Split.{Split}
use Rattle.service_model.specs.Net.{Net}
use Rattle.service_model.specs.Plans.{cost_of, inbound_at, outbound_at}
use Rattle.service_model.specs.Tables.{transit_in}
use Rattle.service_model.specs.Relaxed.{FitsRange}
use Rattle.service_model.specs.Repairs.{IsFound, Found}
use Rattle.service_model.specs.Held.{Held, no_plan, node_at, relaxed_at, relaxed_of, roots_of, cuts_of, range_of, bound_at}
use Rattle.service_model.specs.Earned.{IsNext, IsOpen, IsRelaxedAt, BreaksArc}
use Rattle.service_model.specs.CertRules.{SplitRule, IsFirstOf}
use Rattle.split_rules.specs.declared.leaves.Leaf.{Leaf}
use Rattle.split_rules.specs.Arcs.{Breaks}
use Rattle.split_rules.specs.Relaxed.{MeetsBelow, IsRelaxedOf, IsOpenAt}
use Rattle.split_rules.proofs.NextFacts.{next_one}

-- what is known of what came: the node that is split next, and the plan found
pub record IsKnown (n : Net) (h : Held) (tables : List Table) (leaf : Leaf) (x : Node) (r : Range) (found : Option Plan) : Type 0 where
  pub tables_are : h.tables ≡ tables
  pub next : IsNext n h leaf.node
  pub bound : bound_at h leaf.node ≡ leaf.bound
  pub node : node_at h.nodes leaf.node ≡ x
  pub range : range_of n h leaf.node ≡ r
  pub is_found : Found n (relaxed_of h) found

-- four rules hold, each where its number is tested
each_rule : (A B C D : Type 0) (first second third fourth : Bool) → (first ≡ true → A) → (second ≡ true → B) → (third ≡ true → C) → (fourth ≡ true → D)
    → MatchBool first A (MatchBool second B (MatchBool third C (MatchBool fourth D ⊤)))
each_rule A B C D true second third fourth a b c d = a refl
each_rule A B C D false true third fourth a b c d = b refl
each_rule A B C D false false true fourth a b c d = c refl
each_rule A B C D false false false true a b c d = d refl
each_rule A B C D false false false false a b c d = tt

module _ (n : Net) (h : Held) (s : Split) (tables : List Table) (leaf : Leaf) (x : Node) (r : Range) (found : Option Plan) (known : IsKnown n h tables leaf x r found) where
  bound_is : s.node ≡ leaf.node → bound_at h s.node ≡ leaf.bound
  bound_is same = ap (bound_at h) same ∙ known.bound

  node_is : s.node ≡ leaf.node → node_at h.nodes s.node ≡ x
  node_is same = ap (node_at h.nodes) same ∙ known.node

  range_is : s.node ≡ leaf.node → range_of n h s.node ≡ r
  range_is same = ap (range_of n h) same ∙ known.range

  relaxed_is : s.node ≡ leaf.node → (p : Plan) → x.relaxed ≡ Some p → relaxed_at h.nodes s.node ≡ p
  relaxed_is same p some = ap (λ (y : Node). unwrap_or y.relaxed no_plan) (node_is same) ∙ ap (λ o. unwrap_or o no_plan) some

  is_next : s.node ≡ leaf.node → IsNext n h s.node
  is_next same = subst (IsNext n h) (sym same) known.next

  same_node : IsNext n h s.node → s.node ≡ leaf.node
  same_node next = next_one h.tables (roots_of h) (cuts_of n h) s.node leaf.node next known.next

  -- ---- each rule, and what the code tests
  open_from : s.node ≡ leaf.node → IsOpenAt n found leaf.bound → IsOpen n h s.node
  open_from same (finite, below) = record {
    finite = omega (arith, bound_is same, finite);
    below = λ p is. below_found found known.is_found below p is;
  }
    where
      below_found : (best : Option Plan) → Found n (relaxed_of h) best → IfSome best (λ p. leaf.bound < cost_of n p) → (p : Plan) → IsFound n (relaxed_of h) p
          → bound_at h s.node < cost_of n p
      below_found None none less p is = absurd (none is.node is.kind p is.candidate)
      below_found (Some q) best less p is =
          let low = best.least is.node is.kind p is.candidate in
          omega (arith, less, low, bound_is same)

  open_to : s.node ≡ leaf.node → IsOpen n h s.node → IsOpenAt n found leaf.bound
  open_to same early = (let low = early.finite in omega (arith, bound_is same, low), below found known.is_found)
    where
      below : (best : Option Plan) → Found n (relaxed_of h) best → IfSome best (λ p. leaf.bound < cost_of n p)
      below None none = tt
      below (Some q) best = let low = early.below q best in omega (arith, bound_is same, low)

  relaxed_from : s.node ≡ leaf.node → (p : Plan) → x.relaxed ≡ Some p → IsRelaxedOf n tables r x.roots leaf.bound p → IsRelaxedAt n h s.node
  relaxed_from same p some is = record {
    plan = p;
    there = ap (λ (y : Node). y.relaxed) (node_is same) ∙ some;
    stages = λ j low. subst (λ (q : Range). FitsRange n q p j) (sym (range_is same)) (is.stages j low);
    arcs = subst (λ (y : Node). MeetsBelow n h.tables y.roots p) (sym (node_is same))
        (subst (λ (ts : List Table). MeetsBelow n ts x.roots p) (sym known.tables_are) is.arcs);
    cost = is.cost ∙ sym (bound_is same);
  }

  relaxed_to : s.node ≡ leaf.node → (p : Plan) → x.relaxed ≡ Some p → IsRelaxedAt n h s.node → IsRelaxedOf n tables r x.roots leaf.bound p
  relaxed_to same p some is =
      let own : is.plan ≡ p = (let there = is.there in let node = ap (λ (y : Node). y.relaxed) (node_is same) in cc) in
      subst (IsRelaxedOf n tables r x.roots leaf.bound) own
      (record {
        stages = λ j low. subst (λ (q : Range). FitsRange n q is.plan j) (range_is same) (is.stages j low);
        arcs = subst (λ (ts : List Table). MeetsBelow n ts x.roots is.plan) known.tables_are
            (subst (λ (y : Node). MeetsBelow n h.tables y.roots is.plan) (node_is same) is.arcs);
        cost = is.cost ∙ bound_is same;
      })

  breaks_from : s.node ≡ leaf.node → (p : Plan) → x.relaxed ≡ Some p → Breaks n p s → BreaksArc n h s
  breaks_from same p some is = record {
    arc = is.arc;
    broken = subst (λ (q : Plan). inbound_at q s.customer < outbound_at q s.supplier + transit_in n.arcs s.supplier s.customer)
        (sym (relaxed_is same p some)) is.broken;
  }

  breaks_to : s.node ≡ leaf.node → (p : Plan) → x.relaxed ≡ Some p → BreaksArc n h s → Breaks n p s
  breaks_to same p some is = record {
    arc = is.arc;
    broken = subst (λ (q : Plan). inbound_at q s.customer < outbound_at q s.supplier + transit_in n.arcs s.supplier s.customer)
        (relaxed_is same p some) is.broken;
  }

  -- ---- the first that fails
  -- all rules hold that come before one
  all_before : (rule : ℕ) → rule ≤ SPLIT_ARC → (SPLIT_NODE < rule → IsNext n h s.node) → (SPLIT_LATE < rule → IsOpen n h s.node)
      → (SPLIT_PLAN < rule → IsRelaxedAt n h s.node) → (k : ℕ) → k < rule → SplitRule n h s k
  all_before rule low node late plan k less = each_rule (IsNext n h s.node) (IsOpen n h s.node) (IsRelaxedAt n h s.node) (BreaksArc n h s)
      (k == SPLIT_NODE) (k == SPLIT_LATE) (k == SPLIT_PLAN) (k == SPLIT_ARC)
      (λ is. node (omega (arith, less, eqb-true k SPLIT_NODE is))) (λ is. late (omega (arith, less, eqb-true k SPLIT_LATE is)))
      (λ is. plan (omega (arith, less, eqb-true k SPLIT_PLAN is))) (λ is. absurd (omega (arith, less, low, eqb-true k SPLIT_ARC is)))

  pub node_fails : s.node ≢ leaf.node → IsFirstOf (SplitRule n h s) (Some SPLIT_NODE)
  node_fails other = (
    λ next. other (same_node next),
    all_before SPLIT_NODE (omega arith) (λ less. absurd (omega (arith, less))) (λ less. absurd (omega (arith, less))) (λ less. absurd (omega (arith, less))),
  )

  pub late_fails : s.node ≡ leaf.node → ¬ IsOpenAt n found leaf.bound → IsFirstOf (SplitRule n h s) (Some SPLIT_LATE)
  late_fails same not = (
    λ early. not (open_to same early),
    all_before SPLIT_LATE (omega arith) (λ less. is_next same) (λ less. absurd (omega (arith, less))) (λ less. absurd (omega (arith, less))),
  )

  pub no_plan_fails : s.node ≡ leaf.node → IsOpenAt n found leaf.bound → x.relaxed ≡ None → IsFirstOf (SplitRule n h s) (Some SPLIT_PLAN)
  no_plan_fails same early none = (
    λ is. (let there = is.there in let node = ap (λ (y : Node). y.relaxed) (node_is same) in absurd cc),
    all_before SPLIT_PLAN (omega arith) (λ less. is_next same) (λ less. open_from same early) (λ less. absurd (omega (arith, less))),
  )

  pub plan_fails : s.node ≡ leaf.node → IsOpenAt n found leaf.bound → (p : Plan) → x.relaxed ≡ Some p → ¬ IsRelaxedOf n tables r x.roots leaf.bound p
      → IsFirstOf (SplitRule n h s) (Some SPLIT_PLAN)
  plan_fails same early p some not = (
    λ is. not (relaxed_to same p some is),
    all_before SPLIT_PLAN (omega arith) (λ less. is_next same) (λ less. open_from same early) (λ less. absurd (omega (arith, less))),
  )

  pub arc_fails : s.node ≡ leaf.node → IsOpenAt n found leaf.bound → (p : Plan) → x.relaxed ≡ Some p → IsRelaxedOf n tables r x.roots leaf.bound p
      → ¬ Breaks n p s → IsFirstOf (SplitRule n h s) (Some SPLIT_ARC)
  arc_fails same early p some is not = (
    λ breaks. not (breaks_to same p some breaks),
    all_before SPLIT_ARC (omega arith) (λ less. is_next same) (λ less. open_from same early) (λ less. relaxed_from same p some is),
  )

  pub none_fails : s.node ≡ leaf.node → IsOpenAt n found leaf.bound → (p : Plan) → x.relaxed ≡ Some p → IsRelaxedOf n tables r x.roots leaf.bound p
      → Breaks n p s → IsFirstOf (SplitRule n h s) None
  none_fails same early p some is breaks = λ k. each_rule (IsNext n h s.node) (IsOpen n h s.node) (IsRelaxedAt n h s.node) (BreaksArc n h s)
      (k == SPLIT_NODE) (k == SPLIT_LATE) (k == SPLIT_PLAN) (k == SPLIT_ARC)
      (λ rule. is_next same) (λ rule. open_from same early) (λ rule. relaxed_from same p some is) (λ rule. breaks_from same p some breaks)
