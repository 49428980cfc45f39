-- A search of one node.
use Rattle.std.proofs.Common.{◌≡◌, ◌↔◌, ℕ, ◌<◌, ◌≤◌, zero, suc, List, [], ◌∷◌, length, get_or, map, refl, sym, ap, ◌∙◌, subst, arith}
use Rattle.std.specs.Prelude.{◌==◌, Option, Some, None, Contains}
use Rattle.std.proofs.lemmas.List.{get_or-map}
use Rattle.service_model.specs.declared.cert_rules.TheConstants.{MAX_BUDGET, SHAPE, HEAD, AFTER_END, PLACE, NETWORK}
use Rattle.service_model.specs.declared.plan.Plan.{Plan}
use Rattle.service_model.specs.declared.range.Range.{Range}
use Rattle.service_model.specs.declared.stage.Stage.{Stage}
use Rattle.service_model.specs.declared.table.Table.{Table}
use Rattle.service_model.specs.declared.cert.Node.{Node}
use Rattle.service_model.specs.declared.cert.Verdict.{Verdict}
use Rattle.service_model.specs.declared.cert.Item.TheVariants.{Head as HeadItem, Table as TableItem, Node as NodeItem}
use Rattle.service_model.specs.Net.{Net, no_stage}
use Rattle.service_model.specs.Networks.{IsNetwork}
use Rattle.service_model.specs.Ranges.{whole_of, HasIntervals}
use Rattle.service_model.specs.Nodes.{bound_of}
use Rattle.service_model.specs.CertNumbers.{HeadInRange}
use Rattle.service_model.specs.Repairs.{Repair, IsCandidate, FoundOf}
use Rattle.service_model.specs.Held.{Held, none_held, held_with, held_after}
use Rattle.service_model.specs.CertRules.{Keeps}
use Rattle.service_model.specs.Certs.{AllKeep}
use Rattle.tree_order.specs.declared.forest.Forest.{Forest}
use Rattle.tree_order.specs.Forest.{IsForest}
use Rattle.cert_laws.specs.Grown.{node_items}
use Rattle.cert_laws.proofs.GrownFacts.{first_law}
use Rattle.cert_laws.proofs.TablesKeptFacts.{either, keeps, tables_law}
use Rattle.cert_laws.proofs.KeptFacts.{AllKeep-append, held_after-append}
use Rattle.cert_laws.proofs.FoundFacts.{found_more_law}
use Rattle.open_leaves.specs.declared.leaf.Leaf.{Leaf}
use Rattle.range_splits.specs.Open.{AreLeaves}
use Rattle.range_nodes.specs.declared.made.Made.{Made}
use Rattle.range_nodes.specs.Nodes.{AreSearched, IsRangeNode, IsMade}
use Rattle.range_nodes.proofs.TableFacts.{new_tables}
use Rattle.range_nodes.proofs.RuleFacts.{node_rules}
use Rattle.search_laws.specs.Own.{AreInTurn}
use Rattle.range_branch.specs.declared.progress.Progress.{Progress}
use Rattle.range_branch.specs.Progress.{head_of, cert_with, IsInside, IsNodeAt, IsProgress}
use Rattle.range_branch.specs.First.{IsFirst}
use Rattle.range_branch.proofs.TurnFacts.{AreNew, made_new, in_turn}

pub keeps_head : (n : Net) (budget : ℕ) → IsNetwork n → 1 ≤ budget → budget ≤ MAX_BUDGET → Keeps n none_held (HeadItem (head_of n budget))
keeps_head n budget valid some most =
    let range : HeadInRange (head_of n budget) = record {
      horizon = omega (arith, valid.horizon);
      stages = omega (arith, valid.few_stages);
      some_budget = some;
      budget = most;
    } in
    λ rule.
    either (rule == SHAPE) _ _ range (either (rule == HEAD) _ _ refl (either (rule == AFTER_END) _ _ refl (either (rule == PLACE) _ _ refl
    (either (rule == NETWORK) _ _ (record { horizon = refl; stages = refl }) tt))))

-- the whole range lies within the stages' intervals
pub whole_inside : (n : Net) → HasIntervals n (whole_of n) → IsInside n (whole_of n)
whole_inside n intervals = record {
  intervals = intervals;
  inside = λ j low.
      let least = get_or-map (λ (s : Stage). s.least) n.stages j no_stage 0 low in
      let most = get_or-map (λ (s : Stage). s.most) n.stages j no_stage 0 low in
      (omega (arith, least), omega (arith, most));
}

abbrev pub first_of : Range → Made → Option Plan → List Leaf → Progress
first_of r m found leaves = record { nodes = m.node ∷ []; splits = []; ranges = r ∷ []; leaves = leaves; found = found }

pub first_is : (r : Range) (m : Made) (found : Option Plan) (p : Progress) → IsFirst r m found p → p ≡ first_of r m found p.leaves
first_is r m found p is =
    ap (λ (xs : List Node). record p { nodes = xs }) is.nodes
    ∙ ap (λ xs. record { nodes = m.node ∷ []; splits = xs; ranges = p.ranges; leaves = p.leaves; found = p.found }) is.splits
    ∙ ap (λ xs. record { nodes = m.node ∷ []; splits = []; ranges = xs; leaves = p.leaves; found = p.found }) is.ranges
    ∙ ap (λ o. record { nodes = m.node ∷ []; splits = []; ranges = r ∷ []; leaves = p.leaves; found = o }) is.found_is

-- what came of a head and tables
abbrev pub holding : Net → ℕ → List Table → Held
holding n budget tables = record { head = Some (head_of n budget); tables = tables; nodes = []; splits = []; verdict = None }

no_plan : {q : Plan} → (let none : Option Plan = None in none ≡ Some q) → ⊥
no_plan same = cc

no_candidate : (n : Net) (k : ℕ) (kind : Repair) (p : Plan) → ¬ IsCandidate n [] k kind p
no_candidate n k kind p is = no_plan is.there

-- the items of one node keep all rules
first_keeps : (n : Net) (f : Forest) (budget : ℕ) (tables : List Table) (x : Node) → IsNetwork n → IsForest (length n.stages) n.arcs f → 1 ≤ budget
    → budget ≤ MAX_BUDGET → AreSearched n tables → HasIntervals n (whole_of n) → IsRangeNode n f tables (whole_of n) x
    → AllKeep n none_held (HeadItem (head_of n budget) ∷ node_items tables x)
    × (held_after none_held (HeadItem (head_of n budget) ∷ node_items tables x) ≡ held_with (holding n budget tables) (NodeItem x))
first_keeps n f budget tables x valid forest some most searched intervals node =
    let h = holding n budget [] in
    let ts = tables_law n h tables refl refl (new_tables n [] tables valid searched) in
    let rules = node_rules n f (holding n budget tables) (whole_of n) x valid forest intervals searched refl node some in
    let item = keeps n (holding n budget tables) (NodeItem x) rules.1 refl refl refl rules.0 in
    let both = AllKeep-append n h (map TableItem tables) (NodeItem x ∷ []) ts.0 (subst (λ (g : Held). AllKeep n g (NodeItem x ∷ [])) (sym ts.1) (item, tt)) in (
      (keeps_head n budget valid some most, both),
      held_after-append h (map TableItem tables) (NodeItem x ∷ []) ∙ ap (λ (g : Held). held_with g (NodeItem x)) ts.1,
    )

pub same_leaf : (q : Leaf) (b k : ℕ) → q.bound ≡ b → q.node ≡ k → q ≡ record { bound = b; node = k }
same_leaf q b k bound node = ap (λ x. record q { bound = x }) bound ∙ ap (λ x. record { bound = b; node = x }) node

-- the only leaf
first_leaves : (tables : List Table) (x : Node) (bound : ℕ) (leaves : List Leaf) → bound ≡ bound_of tables x.roots
    → ((q : Leaf) → Contains leaves q ↔ (q ≡ record { bound = bound; node = 0 })) → AreLeaves tables (x.roots ∷ []) [] leaves
first_leaves tables x bound leaves is own q = (
  λ there.
      let same = (own q).0 there in
      let at : q.node ≡ 0 = ap (λ (l : Leaf). l.node) same in (
        record { there = omega (arith, at); not_cut = λ k d within. absurd (omega (arith, within)) },
        ap (λ (l : Leaf). l.bound) same ∙ is ∙ ap (λ k. bound_of tables (get_or (x.roots ∷ []) k [])) (sym at),
      ),
  λ leaf.
      let there = leaf.0.there in
      let at : q.node ≡ 0 = omega (arith, there) in
      (own q).1 (same_leaf q bound 0 (leaf.1 ∙ ap (λ k. bound_of tables (get_or (x.roots ∷ []) k [])) at ∙ sym is) at),
)

first_node : (n : Net) (f : Forest) (tables : List Table) (r : Range) (m : Made) (found : Option Plan) (leaves : List Leaf) → IsInside n r
    → IsRangeNode n f tables r m.node → (k : ℕ) → k < 1 → IsNodeAt n f tables (first_of r m found leaves) k
first_node n f tables r m found leaves inside node zero within = record { range = inside; node = node }
first_node n f tables r m found leaves inside node (suc k) within = absurd (omega (arith, within))

first_turn : (n : Net) (f : Forest) (budget : ℕ) (tables : List Table) (r : Range) (m : Made) (found : Option Plan) (leaves : List Leaf) (v : Verdict)
    → AreNew f tables 0 (length tables) m.node → m.node.seen ≡ length tables → (k : ℕ) → k < 1
    → AreInTurn f (cert_with n budget tables (first_of r m found leaves) v) k
first_turn n f budget tables r m found leaves v new seen zero within =
    in_turn f (cert_with n budget tables (first_of r m found leaves) v) 0 0 (length tables) m.node refl refl seen new
first_turn n f budget tables r m found leaves v new seen (suc k) within = absurd (omega (arith, within))

-- the search of the whole range
pub first_is_progress : (n : Net) (f : Forest) (budget : ℕ) (tables : List Table) (count count' : ℕ) (m : Made) (found : Option Plan) (p : Progress)
    → IsNetwork n → IsForest (length n.stages) n.arcs f → 1 ≤ budget → budget ≤ MAX_BUDGET → HasIntervals n (whole_of n)
    → IsMade n f (whole_of n) [] tables count count' m → FoundOf n m.node.relaxed found → IsFirst (whole_of n) m found p → IsProgress n f budget tables p
first_is_progress n f budget tables count count' m found p valid forest some most intervals made best is =
    let q = first_of (whole_of n) m found p.leaves in
    let x = m.node in
    let both = first_keeps n f budget tables x valid forest some most made.tables intervals made.node in
    let laws = λ (v : Verdict). first_law (cert_with n budget tables q v) x refl refl made.seen in
    subst (IsProgress n f budget tables) (sym (first_is (whole_of n) m found p is)) (record {
      whole = λ v. (laws v).0;
      keep = λ v. subst (AllKeep n none_held) (sym (laws v).1) both.0;
      held = λ v. ap (held_after none_held) (laws v).1 ∙ both.1;
      within = some;
      searched = made.tables;
      few = let few = made.few in omega (arith, few);
      ranges = refl;
      nodes = λ k within. first_node n f tables (whole_of n) m found p.leaves (whole_inside n intervals) made.node k (omega (arith, within));
      turns = λ v k within. first_turn n f budget tables (whole_of n) m found p.leaves v
          (made_new n f (whole_of n) [] tables count count' m forest made) made.seen k (omega (arith, within));
      leaves = first_leaves tables x m.bound p.leaves made.bound is.leaves;
      found = found_more_law n [] x.relaxed None found (no_candidate n) best;
      tree = λ none. refl;
    })
