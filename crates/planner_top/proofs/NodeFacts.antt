-- A search has no more ranges than its budget.
use Rattle.std.proofs.Common.{◌≡◌, ◌≤◌, ℕ, List, [], ◌∷◌, length, Option, Some, None, Result, Ok, Err, subst, arith}
use Rattle.std.specs.Prelude.{IfOk, is_none, option_map, unwrap_or}
use Rattle.std.proofs.lemmas.List.{length-append}
use Rattle.service_model.specs.declared.cert_rules.TheConstants.{HEAD, BUDGET}
use Rattle.service_model.specs.declared.cert.Head.{Head}
use Rattle.service_model.specs.declared.cert.Cert.{Cert}
use Rattle.service_model.specs.declared.cert.Item.{Item}
use Rattle.service_model.specs.declared.cert.Item.TheVariants.{Head as HeadItem, Table as TableItem, Node as NodeItem, Split as SplitItem, End as EndItem}
use Rattle.service_model.specs.Net.{Net}
use Rattle.service_model.specs.Items.{is_head, items_from}
use Rattle.service_model.specs.Held.{Held, none_held, held_with, held_after, budget_of}
use Rattle.service_model.specs.CertRules.{Keeps}
use Rattle.service_model.specs.Certs.{AllKeep}
use Rattle.cert_laws.proofs.KeptFacts.{AllKeep-parts}
use Rattle.tree_order.specs.declared.forest.Forest.{Forest}
use Rattle.search_laws.specs.Own.{IsOwn, shown_by}
use Rattle.search_laws.proofs.ShownFacts.{shown_after}

-- what came has no more nodes than its head allows
abbrev IsFew : Held → Type 0
IsFew h = length h.nodes ≤ budget_of h

-- with an item on which no rule fails there are no more
few_with : (n : Net) (h : Held) (x : Item) → Keeps n h x → IsFew h → IsFew (held_with h x)
few_with n h (TableItem t) keeps few = few
few_with n h (SplitItem s) keeps few = few
few_with n h (EndItem v) keeps few = few
few_with n h (NodeItem x) keeps few = (let room = keeps BUDGET in let more = length-append h.nodes (x ∷ []) in omega (arith, room, more))
few_with n h (HeadItem g) keeps few = first h.head (keeps HEAD) few
  where
    first : (head : Option Head) → is_head (HeadItem g) ≡ is_none head → length h.nodes ≤ unwrap_or (option_map (λ (x : Head). x.budget) head) 0 → length h.nodes ≤ g.budget
    first None is none = omega (arith, none)
    first (Some other) is some = cc

few_after : (n : Net) (h : Held) (items : List Item) → AllKeep n h items → IsFew h → IsFew (held_after h items)
few_after n h [] keep few = few
few_after n h (x ∷ items) keep few = few_after n (held_with h x) items keep.1 (few_with n h x keep.0 few)

none_came : IsFew none_held
none_came = omega arith

-- a certificate of a search's own has no more nodes than its budget
pub own_few : (n : Net) (f : Forest) (budget : ℕ) (c : Cert) → IsOwn n f budget c → length c.nodes ≤ budget
own_few n f budget c own =
    let keep = (AllKeep-parts n none_held (HeadItem c.head ∷ items_from c 0 0 c.nodes) (EndItem c.verdict ∷ []) own.keep).0 in
    let few = few_after n none_held (HeadItem c.head ∷ items_from c 0 0 c.nodes) keep none_came in
    let shown : IsFew (shown_by c) = subst (λ (h : Held). IsFew h) (shown_after c) few in
    subst (λ (b : ℕ). length c.nodes ≤ b) own.budget_is shown

-- a search gives one that has not
pub search_few : {E : Type 0} (n : Net) (f : Forest) (budget : ℕ) (r : Result Cert E) → IfOk r (IsOwn n f budget) → IfOk r (λ c. length c.nodes ≤ budget)
search_few n f budget (Ok c) own = own_few n f budget c own
search_few n f budget (Err e) own = tt
