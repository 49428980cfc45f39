-- The certificate of a search that ended.
use Rattle.std.proofs.Common.{◌≡◌, ◌≢◌, ℕ, ◌*◌, ◌<◌, List, [], ◌∷◌, length, refl, sym, ap, ◌∙◌, subst, arith}
use Rattle.std.specs.Prelude.{Option, Some, None, IfSome, All}
use Rattle.std.proofs.lemmas.Bool.{lt-leb}
use Rattle.std.proofs.lemmas.List.{get_or_default}
use Rattle.service_model.specs.declared.limits.TheConstants.{INF}
use Rattle.service_model.specs.declared.plan.Plan.{Plan}
use Rattle.service_model.specs.declared.range.Range.{Range}
use Rattle.service_model.specs.declared.table.Table.{Table}
use Rattle.service_model.specs.declared.cert.Outcome.{Outcome}
use Rattle.service_model.specs.declared.cert.Outcome.TheVariants.{Optimal, Infeasible, Spent}
use Rattle.service_model.specs.declared.cert.Split.{Split}
use Rattle.service_model.specs.declared.cert.Verdict.{Verdict}
use Rattle.service_model.specs.declared.cert.Cert.{Cert}
use Rattle.service_model.specs.declared.cert.Item.TheVariants.{End as EndItem}
use Rattle.service_model.specs.Net.{Net, no_arc}
use Rattle.service_model.specs.Plans.{HasTimes, Meets, Feasible}
use Rattle.service_model.specs.Networks.{IsNetwork}
use Rattle.service_model.specs.Nodes.{bound_of}
use Rattle.service_model.specs.CertRanges.{range_at}
use Rattle.service_model.specs.Verdicts.{Closes, EndsWith, ending_plan, TrueAs, IsTrueOf}
use Rattle.service_model.specs.Items.{items_of}
use Rattle.service_model.specs.Held.{Held, none_held, no_node, node_at, roots_of, cuts_of, range_of}
use Rattle.service_model.specs.CertRules.{Keeps}
use Rattle.service_model.specs.Certs.{AllKeep}
use Rattle.tree_order.specs.declared.forest.Forest.{Forest}
use Rattle.tree_order.specs.Forest.{IsForest}
use Rattle.tree_order.proofs.ForestLaws.{all_kept}
use Rattle.arc_relax.specs.Laws.{HasPlan}
use Rattle.arc_relax.proofs.CountFacts.{no_fewer}
use Rattle.cert_laws.specs.Grown.{open_items}
use Rattle.cert_laws.proofs.TablesKeptFacts.{keeps}
use Rattle.cert_laws.proofs.KeptFacts.{AllKeep-push}
use Rattle.cert_laws.proofs.CheckFacts.{cert_law}
use Rattle.range_splits.specs.Open.{ending_bound}
use Rattle.range_splits.proofs.NextFacts.{next_law}
use Rattle.range_splits.proofs.EndFacts.{end_law}
use Rattle.range_splits.proofs.OpenFacts.{open_law}
use Rattle.range_nodes.specs.Sizes.{IsShortNode}
use Rattle.range_nodes.specs.Nodes.{IsRangeNode}
use Rattle.range_nodes.proofs.PlanFacts.{relaxed_at, feasible_found, short_node}
use Rattle.search_laws.specs.Own.{IsOwn}
use Rattle.range_branch.specs.Progress.{came, cert_with}
use Rattle.range_branch.specs.Sizes.{IsShortCert}
use Rattle.range_branch.specs.Solutions.{SolvesAs, Solves}
use Rattle.range_branch.specs.Steps.{IsSearched}
use Rattle.range_branch.proofs.OpenFacts.{is_open}
use Rattle.range_branch.proofs.SplittingFacts.{many_cuts, many_nodes}
use Rattle.range_branch.proofs.LeafStepFacts.{found_is_feasible}

-- the verdict of a search that ended
abbrev verdict_of : (n : Net) (f : Forest) (budget : ℕ) (tables : List Table) (c : Cert) → IsSearched n f budget tables c → Verdict
verdict_of n f budget tables c is = record {
  outcome = is.outcome;
  bound = ending_bound is.outcome n is.progress.found is.least.bound;
  plan = ending_plan is.outcome is.progress.found;
}

-- the certificate, with its parts in view
abbrev seen_cert : (n : Net) (f : Forest) (budget : ℕ) (tables : List Table) (c : Cert) → IsSearched n f budget tables c → Cert
seen_cert n f budget tables c is = cert_with n budget tables is.progress (verdict_of n f budget tables c is)

-- no rule fails on its items
ended_keeps : (n : Net) (f : Forest) (budget : ℕ) (tables : List Table) (c : Cert) → IsNetwork n → (is : IsSearched n f budget tables c)
    → AllKeep n none_held (items_of (seen_cert n f budget tables c is))
ended_keeps n f budget tables c valid is =
    let p = is.progress in
    let v = verdict_of n f budget tables c is in
    let h = came n budget tables p in
    let next = next_law tables (roots_of h) (cuts_of n h) p.leaves is.least is.is_progress.leaves is.is_least in
    let end = end_law n h p.found is.least.bound v valid is.is_progress.found next.1 is.ends refl in
    let many = many_nodes n f budget tables p is.is_progress in
    let item = keeps n h (EndItem v) end.0 refl refl (lt-leb (length p.nodes) (2 * length p.splits) (omega (arith, many))) end.1 in
    AllKeep-push n none_held (open_items (cert_with n budget tables p v)) (EndItem v) (is.is_progress.keep v)
    (subst (λ (g : Held). Keeps n g (EndItem v)) (sym (is.is_progress.held v)) item)

-- the certificate is a search's own
pub ended_own : (n : Net) (f : Forest) (budget : ℕ) (tables : List Table) (c : Cert) → IsNetwork n → IsSearched n f budget tables c → IsOwn n f budget c
ended_own n f budget tables c valid is =
    let p = is.progress in
    let h = came n budget tables p in
    let own : IsOwn n f budget (seen_cert n f budget tables c is) = record {
      keep = ended_keeps n f budget tables c valid is;
      budget_is = refl;
      whole = is.is_progress.whole (verdict_of n f budget tables c is);
      tables = is.is_progress.searched.pool;
      nodes = λ k within.
          let same : range_at p.ranges k ≡ range_of n h k = ap (λ (rs : List Range). range_at rs k) is.is_progress.ranges in
          subst (λ (r : Range). IsRangeNode n f tables r (node_at p.nodes k)) same (is.is_progress.nodes k within).node;
      turns = is.is_progress.turns (verdict_of n f budget tables c is);
    } in
    subst (IsOwn n f budget) (sym is.cert.is) own

pub ended_true : (n : Net) (f : Forest) (budget : ℕ) (tables : List Table) (c : Cert) → IsNetwork n → IsSearched n f budget tables c → IsTrueOf n c.verdict
ended_true n f budget tables c valid is = cert_law n c valid (ended_own n f budget tables c valid is).keep

plan_times : (n : Net) (outcome : Outcome) (found : Option Plan) → IfSome found (Feasible n) → IfSome (ending_plan outcome found) (HasTimes n)
plan_times n Optimal None feasible = tt
plan_times n Optimal (Some p) feasible = feasible.times
plan_times n Infeasible found feasible = tt
plan_times n Spent None feasible = tt
plan_times n Spent (Some p) feasible = feasible.times

-- its lists are short
pub ended_short : (n : Net) (f : Forest) (budget : ℕ) (tables : List Table) (c : Cert) → IsForest (length n.stages) n.arcs f → IsSearched n f budget tables c
    → IsShortCert n c
ended_short n f budget tables c forest is =
    let p = is.progress in
    let short : IsShortCert n (seen_cert n f budget tables c is) = record {
      tables = is.is_progress.searched.short;
      nodes = λ k d within. subst (IsShortNode n) (get_or_default p.nodes k no_node d within)
          (short_node n f tables (range_at p.ranges k) (node_at p.nodes k) forest (is.is_progress.nodes k within).node);
      plan = plan_times n is.outcome p.found (found_is_feasible n f budget tables p is.is_progress);
    } in
    subst (IsShortCert n) (sym is.cert.is) short

none_left : (xs : List Split) → length xs ≡ 0 → xs ≡ []
none_left [] none = refl
none_left (x ∷ xs) none = absurd (omega (arith, none))

-- where no arc is dropped there is one node
pub ended_one : (n : Net) (f : Forest) (budget : ℕ) (tables : List Table) (c : Cert) → IsSearched n f budget tables c
    → (let none : List ℕ = [] in f.dropped ≡ none) → (length c.nodes ≡ 1) × (c.splits ≡ [])
ended_one n f budget tables c is tree =
    let p = is.progress in
    let one = is.is_progress.tree tree in
    let many = many_nodes n f budget tables p is.is_progress in
    subst (λ (d : Cert). (length d.nodes ≡ 1) × (d.splits ≡ [])) (sym is.cert.is) (one, none_left p.splits (omega (arith, one, many)))

-- with one table for each stage
pub ended_stages : (n : Net) (f : Forest) (budget : ℕ) (tables : List Table) (c : Cert) → IsSearched n f budget tables c
    → (let none : List ℕ = [] in f.dropped ≡ none) → length c.tables ≡ length n.stages
ended_stages n f budget tables c is tree =
    let p = is.progress in
    let one = is.is_progress.tree tree in
    let node = (is.is_progress.nodes 0 (omega (arith, one))).node in
    let few = is.is_progress.few in
    let rows = ap (λ k. k * length n.stages) one in
    let fewer = no_fewer n (range_at p.ranges 0) f tables node.numbers node.stages in
    ap (λ (d : Cert). length d.tables) is.cert.is ∙ (let all : length tables ≡ length n.stages = omega (arith, few, rows, fewer) in all)

-- and the search is not spent
not_spent : (n : Net) (f : Forest) (budget : ℕ) (tables : List Table) (c : Cert) → IsNetwork n → IsForest (length n.stages) n.arcs f
    → (is : IsSearched n f budget tables c) → (let none : List ℕ = [] in f.dropped ≡ none) → ¬ Closes n is.progress.found is.least.bound
    → is.least.bound ≢ INF → ⊥
not_spent n f budget tables c valid forest is tree not_closed finite =
    let p = is.progress in
    let leaf = is.least in
    let h = came n budget tables p in
    let own = (is.is_progress.leaves leaf).0 is.is_least.there in
    let many = many_nodes n f budget tables p is.is_progress in
    let within : leaf.node < length p.nodes = let there = own.0.there in omega (arith, there, many, many_cuts n budget tables p) in
    let opened = is_open n h leaf.node p.found leaf.bound is.is_progress.found (sym own.1) not_closed finite in
    let same : range_at p.ranges leaf.node ≡ range_of n h leaf.node = ap (λ (rs : List Range). range_at rs leaf.node) is.is_progress.ranges in
    let at = is.is_progress.nodes leaf.node within in
    let node = subst (λ (r : Range). IsRangeNode n f tables r (node_at p.nodes leaf.node)) same at.node in
    let relaxed = relaxed_at n f h leaf.node valid forest is.is_progress.searched node opened.finite in
    let q = relaxed.plan in
    let plan = subst (HasPlan n (range_at p.ranges leaf.node) f.parent (bound_of tables (node_at p.nodes leaf.node).roots)) relaxed.there at.node.plan in
    let kept = all_kept (length n.stages) n.arcs f forest tree in
    let met : All (Meets q) n.arcs = λ a d inside. subst (Meets q) (get_or_default n.arcs a no_arc d inside) (plan.0.arcs a inside (kept a no_arc inside)) in
    let feasible = feasible_found n f tables (range_at p.ranges leaf.node) (node_at p.nodes leaf.node) q valid forest at.range.inside at.node relaxed.there met in
    open_law n h leaf.node p.found q is.is_progress.found opened within relaxed.there relaxed.cost feasible

solves_by : (outcome : Outcome) (n : Net) (found : Option Plan) (least nodes budget bound : ℕ) (plan : Option Plan) → EndsWith outcome n found least nodes budget bound
    → (¬ Closes n found least → least ≢ INF → ⊥) → TrueAs outcome n bound plan → SolvesAs outcome n bound plan
solves_by Optimal n found least nodes budget bound plan ends never is = is
solves_by Infeasible n found least nodes budget bound plan ends never is = is
solves_by Spent n found least nodes budget bound plan (not_closed, finite, late, same) never is = never not_closed finite

pub ended_solves : (n : Net) (f : Forest) (budget : ℕ) (tables : List Table) (c : Cert) → IsNetwork n → IsForest (length n.stages) n.arcs f
    → IsSearched n f budget tables c → (let none : List ℕ = [] in f.dropped ≡ none) → Solves n c.verdict
ended_solves n f budget tables c valid forest is tree =
    let p = is.progress in
    let v = verdict_of n f budget tables c is in
    let true' = subst (λ (d : Cert). IsTrueOf n d.verdict) is.cert.is (ended_true n f budget tables c valid is) in
    subst (λ (d : Cert). Solves n d.verdict) (sym is.cert.is)
    (solves_by v.outcome n p.found is.least.bound (length p.nodes) budget v.bound v.plan is.ends (not_spent n f budget tables c valid forest is tree) true')

pub ended_tables : (n : Net) (f : Forest) (budget : ℕ) (tables : List Table) (c : Cert) → IsSearched n f budget tables c → tables ≡ c.tables
ended_tables n f budget tables c is = sym (ap (λ (d : Cert). d.tables) is.cert.is)
