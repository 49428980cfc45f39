-- Reading a plan back, one child after the other.
use Rattle.std.proofs.Common.{ℕ, suc, ◌≡◌, ◌≢◌, ◌+◌, ◌<◌, List, [], ◌∷◌, ◌++◌, get_or, take, sym, ap, ◌∙◌, subst, arith}
use Rattle.std.specs.Prelude.{sum_by}
use Rattle.std.specs.List.{flat_map, AllByRecursion}
use Rattle.std.proofs.lemmas.List.{append-nil}
use Rattle.std.proofs.lemmas.List.Sums.{sum_by-cons, sum_by-append}
use Rattle.std.proofs.lemmas.List.Concat.{flat_map-append}
use Rattle.service_model.specs.declared.limits.TheConstants.{INF}
use Rattle.service_model.specs.declared.plan.Plan.{Plan}
use Rattle.service_model.specs.declared.table.Table.{Table}
use Rattle.service_model.specs.Net.{Net, stage_at}
use Rattle.service_model.specs.Plans.{HasTimes, inbound_at, outbound_at, stage_cost, charge}
use Rattle.service_model.specs.Tables.{table_at, place_of}
use Rattle.service_model.specs.LocalSums.{least_below}
use Rattle.service_model.specs.Nodes.{below, Holds, AreTightBelow}
use Rattle.gsm_laws.specs.Traces.{IsAbsent, SameAt, SameOutside, cost_at, IsTraceOf}
use Rattle.gsm_laws.proofs.ElementFacts.{each, all_append, all_both}
use Rattle.gsm_laws.proofs.AgreeFacts.{Apart, apart_append, same_sum}
use Rattle.gsm_laws.proofs.TracedFacts.{first_holds}
use Rattle.gsm_laws.proofs.TraceFacts.{with_other}
use Rattle.tree_tables.specs.Steps.{Attains, IsChildPlace, with_times}
use Rattle.tree_tables.proofs.DepthFacts.{AreChildrenTraced, below_tight, keep, traced_from}
use Rattle.tree_tables.proofs.PlaceFacts.{met_at}

-- from p, which has these times at t's stage, the plan q is p but below these children, which it traces at their least costs
pub record AreTraced (n : Net) (tables : List Table) (t : Table) (a b : ℕ) (cs : List ℕ) (p q : Plan) : Type 0 where
  pub times : HasTimes n q
  pub inbound : inbound_at q t.stage ≡ a
  pub outbound : outbound_at q t.stage ≡ b
  pub same : SameOutside tables (flat_map (below tables) cs) p q
  pub traced : AreChildrenTraced n tables q t cs
  pub cost : cost_at n q tables (flat_map (below tables) cs) ≡ sum_by (λ c. least_below n t a b (table_at tables c)) cs

-- what holds after so many children
abbrev pub Soon : Net → List Table → Table → ℕ → ℕ → ℕ → Plan → Plan → Type 0
Soon n tables t a b k p q = AreTraced n tables t a b (take k t.children) (with_times p t.stage a b) q

pub listed : (tables : List Table) (cs : List ℕ) (c : ℕ) → flat_map (below tables) (cs ++ c ∷ []) ≡ flat_map (below tables) cs ++ below tables c
listed tables cs c =
    flat_map-append (below tables) cs (c ∷ []) ∙ ap (λ (ks : List ℕ). flat_map (below tables) cs ++ ks) (append-nil (below tables c))

-- one child more
pub one_more : (n : Net) (tables : List Table) (t : Table) (a b : ℕ) (cs : List ℕ) (c y : ℕ) (p q q' : Plan) → AllByRecursion (AreTightBelow n tables) cs
    → Apart tables (flat_map (below tables) (cs ++ c ∷ [])) → IsAbsent tables t.stage (flat_map (below tables) (cs ++ c ∷ []))
    → AreTraced n tables t a b cs p q → IsChildPlace n (table_at tables c) t a b y → IsTraceOf n tables c y q q'
    → AreTraced n tables t a b (cs ++ c ∷ []) p q'
one_more n tables t a b cs c y p q q' known apart absent before stands after =
    let e = listed tables cs c in
    let parts = apart_append tables (flat_map (below tables) cs) (below tables c) (subst (Apart tables) e apart) in
    let gone = all_append (λ k. (table_at tables k).stage ≢ t.stage) (flat_map (below tables) cs) (below tables c) (subst (IsAbsent tables t.stage) e absent) in
    let kept = after.same t.stage gone.1 in
    let inbound : inbound_at q' t.stage ≡ a = kept.0 ∙ before.inbound in
    let outbound : outbound_at q' t.stage ≡ b = kept.1 ∙ before.outbound in
    let agree = each (λ k. IsAbsent tables (table_at tables k).stage (below tables c)) (λ k. SameAt q q' (table_at tables k).stage)
    (λ k away. after.same (table_at tables k).stage away) (flat_map (below tables) cs) parts.2 in
    let holds = first_holds n tables q' (suc c) c (omega arith) after.traced in
    let sums = same_sum n tables q q' (flat_map (below tables) cs) agree in
    let cost = λ (k : ℕ). stage_cost n q' (table_at tables k).stage in
    let value = λ (k : ℕ). least_below n t a b (table_at tables k) in
    let joined : sum_by cost (flat_map (below tables) (cs ++ c ∷ [])) ≡ sum_by cost (flat_map (below tables) cs) + sum_by cost (below tables c) =
    ap (sum_by cost) e ∙ sum_by-append cost (flat_map (below tables) cs) (below tables c) in
    let added : sum_by value (cs ++ c ∷ []) ≡ sum_by value cs + sum_by value (c ∷ []) = sum_by-append value cs (c ∷ []) in
    let last = sum_by-cons value c [] in
    record {
      times = after.times;
      inbound = inbound;
      outbound = outbound;
      same = λ j away.
          let both = all_append (λ k. (table_at tables k).stage ≢ j) (flat_map (below tables) cs) (below tables c) (subst (IsAbsent tables j) e away) in
          let one = before.same j both.0 in
          let two = after.same j both.1 in
          (two.0 ∙ one.0, two.1 ∙ one.1);
      traced = all_both _ cs (c ∷ []) (keep n tables t q q' kept cs known agree before.traced)
          ((met_at (table_at tables c).kind n (table_at tables c) t.stage a b y q' stands.met holds after.stands inbound outbound, after.traced), tt);
      cost = omega (arith, joined, added, last, sums, before.cost, after.cost, stands.value);
    }

-- after the last child
pub finish : (n : Net) (tables : List Table) (i x a b : ℕ) (p q : Plan) → AreTightBelow n tables i → get_or (table_at tables i).values x 0 < INF
    → Attains n tables (table_at tables i) x a b
    → AreTraced n tables (table_at tables i) a b (table_at tables i).children (with_times p (table_at tables i).stage a b) q → IsTraceOf n tables i x p q
finish n tables i x a b p q known small at all =
    let t = table_at tables i in
    let j = t.stage in
    let e = below_tight n tables i known in
    let cost = λ (k : ℕ). stage_cost n q (table_at tables k).stage in
    let own : stage_cost n q j ≡ charge (stage_at n j).lead (stage_at n j).cost a b =
    ap (λ v. charge (stage_at n j).lead (stage_at n j).cost v (outbound_at q j)) all.inbound
    ∙ ap (λ w. charge (stage_at n j).lead (stage_at n j).cost a w) all.outbound in
    let sum : sum_by cost (below tables i) ≡ stage_cost n q j + sum_by cost (flat_map (below tables) t.children) =
    ap (sum_by cost) e ∙ sum_by-cons cost i (flat_map (below tables) t.children) in
    let holds : Holds n q t = record {
      not_early = omega (arith, at.covers.not_early, all.outbound);
      not_late = omega (arith, at.covers.not_late, all.outbound);
      not_below = omega (arith, at.covers.not_below, all.inbound);
      not_above = omega (arith, at.covers.not_above, all.inbound);
    } in
    record {
      times = all.times;
      same = λ k away.
          let parts : IsAbsent tables k (i ∷ flat_map (below tables) t.children) = subst (IsAbsent tables k) e away in
          let other = with_other p j a b k (λ is. parts.0 (sym is)) in
          let later = all.same k parts.1 in
          (later.0 ∙ other.0, later.1 ∙ other.1);
      traced = traced_from n tables q i known holds all.traced;
      stands = ap (λ v. place_of t v (outbound_at q j)) all.inbound ∙ ap (λ w. place_of t a w) all.outbound ∙ at.stands;
      cost = omega (arith, sum, own, all.cost, at.value, small);
    }
