-- A search along arcs, step by step.
use Rattle.std.proofs.Common.{ℕ, zero, suc, ◌≡◌, ◌+◌, ◌<◌, ◌≤◌, Bool, true, false, List, [], length, get_or, take, refl, sym, ap, ◌∙◌, subst, ⊎_elim, arith}
use Rattle.std.specs.Prelude.{Contains, ◌↔◌}
use Rattle.std.proofs.lemmas.Bool.{cases_lt}
use Rattle.std.proofs.lemmas.List.{get_or_default, get_or-take}
use Rattle.std.proofs.lemmas.List.Elements.{Contains-get_or}
use Rattle.service_model.specs.declared.stage.SupplyArc.{SupplyArc}
use Rattle.service_model.specs.Walks.{Leads, Walk, ReachesItself}
use Rattle.service_model.specs.Customers.{customers_in}
use Rattle.service_model.specs.Marks.{Marks, MarksAll}
use Rattle.service_model.proofs.CustomerFacts.{customers_lead, leads_customers}

-- a stage is reached along one arc or more
abbrev pub Reaches : List SupplyArc → ℕ → ℕ → Type 0
Reaches arcs i j = (n : ℕ) × Walk arcs i j (suc n)

-- what the search from a stage keeps: the customers of the stages before place at are in the queue
pub record Searched (arcs : List SupplyArc) (stage at : ℕ) (seen : List Bool) (queue : List ℕ) : Type 0 where
  pub marks : Marks seen queue
  pub sound : (q : ℕ) → Contains queue q → Reaches arcs stage q
  pub begun : (q : ℕ) → Leads arcs stage q → Contains queue q
  pub closed : (k q : ℕ) → k < at → Leads arcs (get_or queue k 0) q → Contains queue q
  pub within : at ≤ length queue

-- what stood in the queue stands there still
pub stays : (queue queue' : List ℕ) (q : ℕ) → take (length queue) queue' ≡ queue → length queue ≤ length queue' → Contains queue q → Contains queue' q
stays queue queue' q front longer (k, inside, is) =
    (k, omega (arith, inside, longer), sym (get_or-take (length queue) queue' k q inside) ∙ ap (λ xs. get_or xs k q) front ∙ is)

pub same_at : (queue queue' : List ℕ) (k : ℕ) → take (length queue) queue' ≡ queue → k < length queue → get_or queue' k 0 ≡ get_or queue k 0
same_at queue queue' k front inside = sym (get_or-take (length queue) queue' k 0 inside) ∙ ap (λ xs. get_or xs k 0) front

pub search_start : (arcs : List SupplyArc) (stage : ℕ) (seen seen' : List Bool) (queue queue' : List ℕ) → queue ≡ [] → MarksAll (customers_in arcs stage) seen seen' queue queue' → Searched arcs stage 0 seen' queue'
search_start arcs stage seen seen' queue queue' none new = record {
  marks = new.marks;
  sound = λ q h. ⊎_elim
      (λ was. absurd (omega (arith, was.1, ap length none)))
      (λ come. (0, (stage, refl, customers_lead arcs stage q come)))
      (new.only q h);
  begun = λ q lead. new.all q (leads_customers arcs stage q lead);
  closed = λ k q low. absurd (omega arith);
  within = omega arith;
}

pub search_more : (arcs : List SupplyArc) (stage at : ℕ) (seen seen' : List Bool) (queue queue' : List ℕ) → Searched arcs stage at seen queue → at < length queue
    → MarksAll (customers_in arcs (get_or queue at 0)) seen seen' queue queue' → Searched arcs stage (at + 1) seen' queue'
search_more arcs stage at seen seen' queue queue' old inside new = record {
  marks = new.marks;
  sound = λ q h. ⊎_elim (old.sound q)
      (λ come.
      let walk = old.sound (get_or queue at 0) (Contains-get_or queue at 0 inside) in
      (suc walk.0, (get_or queue at 0, walk.1, customers_lead arcs (get_or queue at 0) q come)))
      (new.only q h);
  begun = λ q lead. stays queue queue' q new.front new.longer (old.begun q lead);
  closed = λ k q low lead. ⊎_elim
      (λ earlier. stays queue queue' q new.front new.longer (old.closed k q earlier (subst (λ x. Leads arcs x q) (same_at queue queue' k new.front (omega (arith, earlier, inside))) lead)))
      (λ here.
      let is : k ≡ at = omega (arith, low, here) in
      new.all q (leads_customers arcs (get_or queue at 0) q
      (subst (λ x. Leads arcs x q) (same_at queue queue' k new.front (omega (arith, is, inside)) ∙ ap (λ n. get_or queue n 0) is) lead)))
      (cases_lt k at);
  within = omega (arith, inside, new.longer);
}

all_reached : (arcs : List SupplyArc) (stage at : ℕ) (seen : List Bool) (queue : List ℕ) → Searched arcs stage at seen queue → length queue ≤ at → (n q : ℕ) → Walk arcs stage q (suc n) → Contains queue q
all_reached arcs stage at seen queue s past zero q (m, walk, lead) = s.begun q (subst (λ x. Leads arcs x q) (sym walk) lead)
all_reached arcs stage at seen queue s past (suc n) q (m, walk, lead) =
    let there = all_reached arcs stage at seen queue s past n m walk in
    s.closed there.0 q (omega (arith, there.1, past)) (subst (λ x. Leads arcs x q) (sym (get_or_default queue there.0 0 m there.1 ∙ there.2)) lead)

pub search_done : (arcs : List SupplyArc) (stage at : ℕ) (seen : List Bool) (queue : List ℕ) → Searched arcs stage at seen queue → length queue ≤ at → (get_or seen stage false ≡ true) ↔ ReachesItself arcs stage
search_done arcs stage at seen queue s past = (
  λ on. s.sound stage (s.marks.only stage on),
  λ cycle. s.marks.marked stage (all_reached arcs stage at seen queue s past cycle.0 stage cycle.1),
)
