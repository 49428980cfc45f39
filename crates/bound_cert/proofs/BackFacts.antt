-- The line of an item reads back as the item.
use Rattle.std.proofs.Common.{◌≡◌, ℕ, suc, ◌^◌, ◌<◌, ◌≤◌, List, [], ◌∷◌, map, All, IfSome, Option, Some, None, Ok, refl, arith, le-leb, codes}
use Rattle.json.specs.Print.{escape_byte, quoted}
use Rattle.serde_json.specs.Data.{Items, no_items, item}
use Rattle.serde_json.specs.View.{items_of}
use Rattle.service_model.specs.declared.limits.TheConstants.{INF, MAX_TIME}
use Rattle.service_model.specs.declared.cert_rules.TheConstants.{MAX_NUMBER, MAX_BUDGET}
use Rattle.service_model.specs.declared.plan.Plan.{Plan}
use Rattle.service_model.specs.declared.table.Kind.{Kind}
use Rattle.service_model.specs.declared.table.Kind.TheVariants.{Down, Up, Root}
use Rattle.service_model.specs.declared.cert.Outcome.{Outcome}
use Rattle.service_model.specs.declared.cert.Outcome.TheVariants.{Optimal, Infeasible, Spent}
use Rattle.service_model.specs.declared.cert.Item.{Item}
use Rattle.service_model.specs.declared.cert.Item.TheVariants.{Head as HeadItem, Table as TableItem, Node as NodeItem, Split as SplitItem, End as EndItem}
use Rattle.service_model.specs.CertNumbers.{PlanInRange, InRange}
use Rattle.bound_cert.specs.declared.limits.TheConstants.{FORMAT}
use Rattle.bound_cert.specs.Lines.{whole, wholes, kind_number, outcome_number, plan_data, data_of}
use Rattle.bound_cert.specs.Fields.{whole_in, kind_in, outcome_in, tag_in, field, wholes_among, wholes_in, plan_among, plan_in}
use Rattle.bound_cert.specs.Reading.{head_among, limits_among, lists_among, table_among, node_among, split_among, end_among, line_in, line_from}
use Rattle.bound_cert.specs.Order.{HasSeen, line_with}
use Rattle.bound_cert.specs.Laws.{ReadsBack}
use Rattle.bound_cert.proofs.ExactFacts.{IsExact, AreExact, printable_from, utf8_written, read_written}
use Rattle.bound_cert.proofs.ReadFacts.{value_here}

whole_back : (least most n : ℕ) → least ≤ n → n ≤ most → whole_in least most (whole n) ≡ Ok n
unfolding whole_in
whole_back least most n low high = rw (le-leb _ _ low, le-leb _ _ high)

-- a number's field
field_back : (least most n : ℕ) (rest : Items) → least ≤ n → n ≤ most → field (whole_in least most) (item (whole n) rest) ≡ Ok (n, rest)
field_back least most n rest low high = rw (whole_back least most n low high)

among_back : (most : ℕ) (ns : List ℕ) → All (λ n. n ≤ most) ns → wholes_among most (items_of (map whole ns)) ≡ Ok ns
unfolding wholes_among
among_back most [] h = refl
among_back most (n ∷ ns) h =
    let here : n ≤ most = h 0 0 (omega arith) in
    let later : All (λ n. n ≤ most) ns = λ k d lt. h (suc k) d (omega arith) in
    rw (whole_back 0 most n (omega arith) here, among_back most ns later)

wholes_back : (most : ℕ) (ns : List ℕ) → All (λ n. n ≤ most) ns → wholes_in most (wholes ns) ≡ Ok ns
unfolding wholes_in
wholes_back most ns h = among_back most ns h

list_back : (most : ℕ) (ns : List ℕ) (rest : Items) → All (λ n. n ≤ most) ns → field (wholes_in most) (item (wholes ns) rest) ≡ Ok (ns, rest)
list_back most ns rest h = rw (wholes_back most ns h)

plan_back : (p : Option Plan) (rest : Items) → IfSome p PlanInRange → field plan_in (item (plan_data p) rest) ≡ Ok (p, rest)
unfolding plan_in plan_among
plan_back None rest h = refl
plan_back (Some p) rest h =
    rw (list_back MAX_TIME p.inbound (item (wholes p.outbound) no_items) h.inbound, list_back MAX_TIME p.outbound no_items h.outbound)

kind_back : (k : Kind) (rest : Items) → field kind_in (item (whole (kind_number k)) rest) ≡ Ok (k, rest)
unfolding kind_in whole_in
kind_back Down rest = refl
kind_back Up rest = refl
kind_back Root rest = refl

outcome_back : (o : Outcome) (rest : Items) → field outcome_in (item (whole (outcome_number o)) rest) ≡ Ok (o, rest)
unfolding outcome_in whole_in
outcome_back Optimal rest = refl
outcome_back Infeasible rest = refl
outcome_back Spent rest = refl

data_back : (seen : ℕ) (x : Item) → InRange x → HasSeen seen x → line_in seen (data_of x) ≡ Ok (line_with x)
unfolding line_in tag_in head_among limits_among lists_among table_among node_among split_among end_among
data_back seen (HeadItem h) r s =
    rw (
      field_back 0 MAX_NUMBER FORMAT _ (omega arith) (omega arith),
      field_back 0 MAX_TIME h.horizon _ (omega arith) r.horizon,
      field_back 0 MAX_NUMBER h.stages _ (omega arith) r.stages,
      field_back 1 MAX_BUDGET h.budget no_items r.some_budget r.budget,
    )
data_back seen (TableItem t) r s =
    rw (
      field_back 0 MAX_NUMBER t.stage _ (omega arith) r.stage,
      kind_back t.kind _,
      field_back 0 MAX_TIME t.least _ (omega arith) r.least,
      field_back 0 MAX_TIME t.most _ (omega arith) r.most,
      field_back 0 MAX_TIME t.floor _ (omega arith) r.floor,
      list_back MAX_NUMBER t.children _ r.children,
      list_back INF t.values _ r.values,
    )
data_back seen (NodeItem x) r s = rw (list_back MAX_NUMBER x.roots _ r.roots, plan_back x.relaxed _ r.relaxed, s)
data_back seen (SplitItem s) r e =
    rw (
      field_back 0 MAX_NUMBER s.node _ (omega arith) r.node,
      field_back 0 MAX_NUMBER s.supplier _ (omega arith) r.supplier,
      field_back 0 MAX_NUMBER s.customer _ (omega arith) r.customer,
    )
data_back seen (EndItem v) r s =
    rw (outcome_back v.outcome _, field_back 0 INF v.bound _ (omega arith) r.bound, plan_back v.plan _ r.plan)

exact_list : (k most : ℕ) (ns : List ℕ) → most < 2 ^ 64 → All (λ n. n ≤ most) ns → AreExact k (items_of (map whole ns))
exact_list k most [] small h = tt
exact_list k most (n ∷ ns) small h =
    let here : n ≤ most = h 0 0 (omega arith) in
    let later : All (λ n. n ≤ most) ns = λ k d lt. h (suc k) d (omega arith) in
    (omega arith, exact_list k most ns small later)

exact_plan : (p : Option Plan) → IfSome p PlanInRange → IsExact 2 (plan_data p)
exact_plan None h = tt
exact_plan (Some p) h =
    (exact_list _ MAX_TIME p.inbound (omega arith) h.inbound, (exact_list _ MAX_TIME p.outbound (omega arith) h.outbound, tt))

small_kind : (k : Kind) → kind_number k < 2 ^ 64
small_kind Down = omega arith
small_kind Up = omega arith
small_kind Root = omega arith

small_outcome : (o : Outcome) → outcome_number o < 2 ^ 64
small_outcome Optimal = omega arith
small_outcome Infeasible = omega arith
small_outcome Spent = omega arith

pub exact_item : (x : Item) → InRange x → IsExact 3 (data_of x)
unfolding escape_byte
exact_item (HeadItem h) r = (
  printable_from (quoted (codes "gsm-cert")) refl,
  (omega arith, (omega (arith, r.horizon), (omega (arith, r.stages), (omega (arith, r.budget), tt)))),
)
exact_item (TableItem t) r = (
  printable_from (quoted (codes "t")) refl,
  (
    omega (arith, r.stage),
    (
      small_kind t.kind,
      (
        omega (arith, r.least),
        (
          omega (arith, r.most),
          (
            omega (arith, r.floor),
            (exact_list _ MAX_NUMBER t.children (omega arith) r.children, (exact_list _ INF t.values (omega arith) r.values, tt)),
          ),
        ),
      ),
    ),
  ),
)
exact_item (NodeItem x) r =
    (printable_from (quoted (codes "n")) refl, (exact_list _ MAX_NUMBER x.roots (omega arith) r.roots, (exact_plan x.relaxed r.relaxed, tt)))
exact_item (SplitItem s) r =
    (printable_from (quoted (codes "s")) refl, (omega (arith, r.node), (omega (arith, r.supplier), (omega (arith, r.customer), tt))))
exact_item (EndItem v) r =
    (printable_from (quoted (codes "e")) refl, (small_outcome v.outcome, (omega (arith, r.bound), (exact_plan v.plan r.plan, tt))))

pub reads_back : ReadsBack
unfolding line_from
reads_back seen x r s =
    let exact = exact_item x r in
    rw (value_here _ (data_of x) (utf8_written 3 (data_of x) exact, read_written 3 (data_of x) (omega arith) exact)) (data_back seen x r s)
