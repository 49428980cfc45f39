-- A split and its two nodes keep all rules behind what came.
use Rattle.std.proofs.Common.{◌≡◌, ℕ, ◌*◌, ◌<◌, ◌≤◌, List, [], ◌∷◌, ◌++◌, length, map, refl, sym, ap, ◌∙◌, subst}
use Rattle.std.specs.Prelude.{Some, None}
use Rattle.std.proofs.lemmas.Bool.{le-ltb, lt-leb}
use Rattle.service_model.specs.declared.range.Range.{Range}
use Rattle.service_model.specs.declared.table.Table.{Table}
use Rattle.service_model.specs.declared.cert.Node.{Node}
use Rattle.service_model.specs.declared.cert.Split.{Split}
use Rattle.service_model.specs.declared.cert.Item.TheVariants.{Table as TableItem, Node as NodeItem, Split as SplitItem}
use Rattle.service_model.specs.Net.{Net}
use Rattle.service_model.specs.Networks.{IsNetwork}
use Rattle.service_model.specs.Ranges.{HasIntervals}
use Rattle.service_model.specs.CertNumbers.{InRange}
use Rattle.service_model.specs.Held.{Held, held_with, held_after, range_of}
use Rattle.service_model.specs.CertRules.{Keeps, SplitRule}
use Rattle.service_model.specs.Certs.{AllKeep}
use Rattle.tree_order.specs.declared.forest.Forest.{Forest}
use Rattle.tree_order.specs.Forest.{IsForest}
use Rattle.cert_laws.specs.Grown.{node_items}
use Rattle.cert_laws.proofs.TablesKeptFacts.{keeps, tables_law}
use Rattle.cert_laws.proofs.KeptFacts.{AllKeep-append, held_after-append}
use Rattle.range_nodes.specs.Nodes.{AreSearched, IsRangeNode}
use Rattle.range_nodes.proofs.TableFacts.{new_tables}
use Rattle.range_nodes.proofs.RuleFacts.{node_rules}
use Rattle.range_branch.specs.Progress.{head_of}

-- what came of a head, tables, nodes and splits
abbrev pub showing : Net → ℕ → List Table → List Node → List Split → Held
showing n budget tables nodes splits = record { head = Some (head_of n budget); tables = tables; nodes = nodes; splits = splits; verdict = None }

-- what a node needs, to come next behind its new tables
pub record IsNextNode (n : Net) (f : Forest) (budget : ℕ) (old more : List Table) (nodes : List Node) (splits : List Split) (r : Range) (x : Node) : Type 0 where
  pub searched : AreSearched n (old ++ more)
  pub intervals : HasIntervals n r
  pub node : IsRangeNode n f (old ++ more) r x
  pub range : r ≡ range_of n (showing n budget (old ++ more) nodes splits) (length nodes)
  pub within : length nodes < budget
  pub placed : length nodes ≤ 2 * length splits

-- a node behind its new tables keeps all rules
pub node_keeps : (n : Net) (f : Forest) (budget : ℕ) (old more : List Table) (nodes : List Node) (splits : List Split) (r : Range) (x : Node)
    → IsNetwork n → IsForest (length n.stages) n.arcs f → IsNextNode n f budget old more nodes splits r x
    → AllKeep n (showing n budget old nodes splits) (node_items more x)
    × (held_after (showing n budget old nodes splits) (node_items more x) ≡ showing n budget (old ++ more) (nodes ++ x ∷ []) splits)
node_keeps n f budget old more nodes splits r x valid forest next =
    let h = showing n budget old nodes splits in
    let g = showing n budget (old ++ more) nodes splits in
    let ts = tables_law n h more refl refl (new_tables n old more valid next.searched) in
    let rules = node_rules n f g r x valid forest next.intervals next.searched next.range next.node next.within in
    let item = keeps n g (NodeItem x) rules.1 refl refl (le-ltb (2 * length splits) (length nodes) next.placed) rules.0 in (
      AllKeep-append n h (map TableItem more) (NodeItem x ∷ []) ts.0 (subst (λ (k : Held). AllKeep n k (NodeItem x ∷ [])) (sym ts.1) (item, tt)),
      held_after-append h (map TableItem more) (NodeItem x ∷ []) ∙ ap (λ (k : Held). held_with k (NodeItem x)) ts.1,
    )

-- a split keeps all rules where it keeps those on splits
pub split_keeps : (n : Net) (budget : ℕ) (tables : List Table) (nodes : List Node) (splits : List Split) (s : Split) → InRange (SplitItem s)
    → 2 * length splits < length nodes → ((rule : ℕ) → SplitRule n (showing n budget tables nodes splits) s rule)
    → Keeps n (showing n budget tables nodes splits) (SplitItem s)
split_keeps n budget tables nodes splits s range placed rules =
    keeps n (showing n budget tables nodes splits) (SplitItem s) range refl refl (lt-leb (length nodes) (2 * length splits) placed) rules

-- the items of a split and of its two nodes
pub all_keep : (n : Net) (f : Forest) (budget : ℕ) (old front back : List Table) (nodes : List Node) (splits : List Split) (s : Split) (left right : Range) (x y : Node)
    → IsNetwork n → IsForest (length n.stages) n.arcs f → Keeps n (showing n budget old nodes splits) (SplitItem s)
    → IsNextNode n f budget old front nodes (splits ++ s ∷ []) left x
    → IsNextNode n f budget (old ++ front) back (nodes ++ x ∷ []) (splits ++ s ∷ []) right y
    → AllKeep n (showing n budget old nodes splits) (SplitItem s ∷ (node_items front x ++ node_items back y))
    × (held_after (showing n budget old nodes splits) (SplitItem s ∷ (node_items front x ++ node_items back y))
    ≡ showing n budget ((old ++ front) ++ back) ((nodes ++ x ∷ []) ++ y ∷ []) (splits ++ s ∷ []))
all_keep n f budget old front back nodes splits s left right x y valid forest split one two =
    let h = showing n budget old nodes (splits ++ s ∷ []) in
    let first = node_keeps n f budget old front nodes (splits ++ s ∷ []) left x valid forest one in
    let second = node_keeps n f budget (old ++ front) back (nodes ++ x ∷ []) (splits ++ s ∷ []) right y valid forest two in (
      (split, AllKeep-append n h (node_items front x) (node_items back y) first.0 (subst (λ (k : Held). AllKeep n k (node_items back y)) (sym first.1) second.0)),
      held_after-append h (node_items front x) (node_items back y) ∙ ap (λ (k : Held). held_after k (node_items back y)) first.1 ∙ second.1,
    )
