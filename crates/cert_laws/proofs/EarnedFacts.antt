-- Items on which no rule fails: each split is earned, and the nodes keep the budget.
use Rattle.std.proofs.Common.{◌≡◌, ◌+◌, ◌*◌, ◌≤◌, true, List, [], ◌∷◌, length, Option, Some, None, is_none, refl, arith}
use Rattle.std.specs.Prelude.{option_map, unwrap_or}
use Rattle.std.proofs.lemmas.Bool.{ltb-false, leb-false}
use Rattle.std.proofs.lemmas.List.{length_push}
use Rattle.service_model.specs.declared.cert_rules.TheConstants.{HEAD, PLACE, BUDGET, SPLIT_NODE, SPLIT_LATE, SPLIT_PLAN, SPLIT_ARC}
use Rattle.service_model.specs.declared.cert.Head.{Head}
use Rattle.service_model.specs.declared.cert.Item.{Item}
use Rattle.service_model.specs.declared.cert.Item.TheVariants.{Head as HeadItem, Table as TableItem, Node as NodeItem, Split as SplitItem, End as EndItem}
use Rattle.service_model.specs.Net.{Net}
use Rattle.service_model.specs.Held.{Held, none_held, held_with, held_after, budget_of}
use Rattle.service_model.specs.CertRules.{Keeps}
use Rattle.service_model.specs.Certs.{AllKeep}
use Rattle.cert_laws.specs.ItemLaws.{EarnedLaw, BudgetLaw}
use Rattle.cert_laws.proofs.KeptFacts.{AllKeep-parts}

-- there are no more than two nodes for each split and one, and no more than the head allows
pub record HasFewNodes (h : Held) : Type 0 where
  pub halves : length h.nodes ≤ 2 * length h.splits + 1
  pub budget : length h.nodes ≤ budget_of h

none_allowed : (head : Option Head) → true ≡ is_none head → unwrap_or (option_map (λ g. g.budget) head) 0 ≡ 0
none_allowed None e = refl
none_allowed (Some g) e = cc

few_more : (n : Net) (h : Held) (x : Item) → HasFewNodes h → Keeps n h x → HasFewNodes (held_with h x)
few_more n h (HeadItem g) few keep =
    let none = none_allowed h.head (keep HEAD) in
    record { halves = few.halves; budget = omega (arith, few.budget, none) }
few_more n h (TableItem t) few keep = record { halves = few.halves; budget = few.budget }
few_more n h (NodeItem x) few keep =
    let room = ltb-false (2 * length h.splits) (length h.nodes) (keep PLACE) in
    let allowed = keep BUDGET in
    let long = length_push h.nodes x in
    record { halves = omega (arith, room, long); budget = omega (arith, allowed, long) }
few_more n h (SplitItem s) few keep = record { halves = omega (arith, few.halves, length_push h.splits s); budget = few.budget }
few_more n h (EndItem v) few keep = record { halves = few.halves; budget = few.budget }

few_after : (n : Net) (h : Held) (items : List Item) → HasFewNodes h → AllKeep n h items → HasFewNodes (held_after h items)
few_after n h [] few keep = few
few_after n h (x ∷ items) few keep = few_after n (held_with h x) items (few_more n h x few keep.0) keep.1

-- items on which no rule fails have few nodes
pub few_nodes : (n : Net) (items : List Item) → AllKeep n none_held items → HasFewNodes (held_after none_held items)
few_nodes n items keep = few_after n none_held items (record { halves = omega arith; budget = omega arith }) keep

pub earned_law : EarnedLaw
earned_law n front rest s keep =
    let h = held_after none_held front in
    let parts = AllKeep-parts n none_held front (SplitItem s ∷ rest) keep in
    let rules = parts.1.0 in
    let few = few_nodes n front parts.0 in
    let all = leb-false (length h.nodes) (2 * length h.splits) (rules PLACE) in
    record {
      nodes = omega (arith, few.halves, all);
      next = rules SPLIT_NODE;
      early = rules SPLIT_LATE;
      relaxed = rules SPLIT_PLAN;
      arc = rules SPLIT_ARC;
    }

pub budget_law : BudgetLaw
budget_law n items keep = (few_nodes n items keep).budget
