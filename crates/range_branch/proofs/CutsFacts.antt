-- The cuts of splits as nodes come.
use Rattle.std.proofs.Common.{◌≡◌, ◌<◌, List, [], ◌∷◌, ◌++◌, length, map, refl, ap, ◌∙◌, ◌-◌}
use Rattle.std.specs.Prelude.{All, unwrap_or}
use Rattle.std.specs.List.{AllByRecursion}
use Rattle.std.proofs.lemmas.List.{get_or_append_left}
use Rattle.std.proofs.lemmas.List.Elements.{recursion_from_All}
use Rattle.service_model.specs.declared.plan.Plan.{Plan}
use Rattle.service_model.specs.declared.cert.Node.{Node}
use Rattle.service_model.specs.declared.cert.Split.{Split}
use Rattle.service_model.specs.Net.{Net}
use Rattle.service_model.specs.Plans.{inbound_at}
use Rattle.service_model.specs.Tables.{transit_in}
use Rattle.service_model.specs.CertRanges.{Cut}
use Rattle.service_model.specs.Held.{no_node, node_at, no_plan, relaxed_at, cut_by}

-- what a split cuts is seen from the node that it names
pub cut_stays : (n : Net) (xs more : List Node) (s : Split) → s.node < length xs → cut_by n (xs ++ more) s ≡ cut_by n xs s
cut_stays n xs more s within =
    let same : node_at (xs ++ more) s.node ≡ node_at xs s.node = get_or_append_left xs more no_node s.node within in
    let plan : relaxed_at (xs ++ more) s.node ≡ relaxed_at xs s.node = ap (λ (x : Node). unwrap_or x.relaxed no_plan) same in
    ap (λ (p : Plan). (let c : Cut = record { node = s.node; stage = s.supplier; last = inbound_at p s.customer - transit_in n.arcs s.supplier s.customer } in c)) plan

cuts_stay_by : (n : Net) (xs more : List Node) (splits : List Split) → AllByRecursion (λ s. s.node < length xs) splits
    → map (cut_by n (xs ++ more)) splits ≡ map (cut_by n xs) splits
cuts_stay_by n xs more [] named = refl
cuts_stay_by n xs more (s ∷ splits) named =
    let first = cut_stays n xs more s named.0 in
    let rest = cuts_stay_by n xs more splits named.1 in
    ap (λ c. c ∷ map (cut_by n (xs ++ more)) splits) first ∙ ap (λ cs. cut_by n xs s ∷ cs) rest

-- more nodes leave the cuts
pub cuts_stay : (n : Net) (xs more : List Node) (splits : List Split) → All (λ s. s.node < length xs) splits
    → map (cut_by n (xs ++ more)) splits ≡ map (cut_by n xs) splits
cuts_stay n xs more splits named = cuts_stay_by n xs more splits (recursion_from_All (λ s. s.node < length xs) splits named)
