-- What the rules up to PLACE say of an item.
use Rattle.std.proofs.Common.{◌*◌, ◌+◌, ◌<◌, ◌≤◌, length, arith}
use Rattle.std.proofs.lemmas.Bool.{ltb-false, leb-false}
use Rattle.std.proofs.lemmas.List.{length-map}
use Rattle.service_model.specs.declared.cert_rules.TheConstants.{SHAPE, PLACE, SPLIT_NODE}
use Rattle.service_model.specs.declared.table.Table.{Table}
use Rattle.service_model.specs.declared.cert.Node.{Node}
use Rattle.service_model.specs.declared.cert.Split.{Split}
use Rattle.service_model.specs.declared.cert.Verdict.{Verdict}
use Rattle.service_model.specs.declared.cert.Item.TheVariants.{Table as TableItem, Node as NodeItem, Split as SplitItem, End as EndItem}
use Rattle.service_model.specs.Net.{Net}
use Rattle.service_model.specs.CertNumbers.{TableInRange}
use Rattle.service_model.specs.Held.{Held, cut_by}
use Rattle.service_model.specs.CertRules.{Keeps}
use Rattle.cert_laws.specs.SoFar.{SoundSoFar}
use Rattle.split_rules.specs.Leaves.{AreNodesComplete, IsNextOf}
use Rattle.split_rules.specs.declared.leaves.Leaf.{Leaf}
use Rattle.cert_check.specs.Faults.{IsPlaced}

pub table_numbers : (n : Net) (h : Held) (t : Table) → IsPlaced n h (TableItem t) → TableInRange t
table_numbers n h t placed = placed SHAPE (omega arith)

-- a node that comes is one of those that the splits allow
pub node_room : (n : Net) (h : Held) (x : Node) → IsPlaced n h (NodeItem x) → length h.nodes ≤ 2 * length h.splits
node_room n h x placed = ltb-false (2 * length h.splits) (length h.nodes) (placed PLACE (omega arith))

-- no node is missing where a split comes
pub split_complete : (n : Net) (h : Held) (s : Split) → SoundSoFar n h → IsPlaced n h (SplitItem s) → AreNodesComplete h
split_complete n h s sound placed =
    let many = leb-false (length h.nodes) (2 * length h.splits) (placed PLACE (omega arith)) in
    let few = sound.few in
    omega (arith, many, few)

-- nor where an end comes
pub end_complete : (n : Net) (h : Held) (v : Verdict) → SoundSoFar n h → IsPlaced n h (EndItem v) → AreNodesComplete h
end_complete n h v sound placed =
    let many = leb-false (length h.nodes) (2 * length h.splits) (placed PLACE (omega arith)) in
    let few = sound.few in
    omega (arith, many, few)

-- the leaf that is split next came
pub next_there : (n : Net) (h : Held) (leaf : Leaf) → AreNodesComplete h → IsNextOf n h leaf → leaf.node < length h.nodes
next_there n h leaf complete is = let low = is.next.leaf.there in omega (arith, low, complete, length-map h.splits (cut_by n h.nodes))

-- a split that keeps all rules names a node that came
pub named_node : (n : Net) (h : Held) (s : Split) → SoundSoFar n h → Keeps n h (SplitItem s) → (s.node < length h.nodes) × (s.node < 2 * length h.splits + 1)
named_node n h s sound keeps =
    let low = (keeps SPLIT_NODE).leaf.there in
    let complete = split_complete n h s sound (λ k early. keeps k) in
    let long = length-map h.splits (cut_by n h.nodes) in
    (omega (arith, low, complete, long), omega (arith, low, long))
