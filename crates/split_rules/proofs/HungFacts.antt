-- A plan meets the arcs between tables exactly where it meets the arcs that their links tell.
use Rattle.std.proofs.Common.{◌≡◌, ◌≢◌, ℕ, ◌<◌, List, length, get_or, sym, ap, ◌∙◌, subst, inl, inr, ⊎_elim, arith}
use Rattle.std.specs.Prelude.{All}
use Rattle.std.proofs.lemmas.List.{get_or_default}
use Rattle.std.proofs.lemmas.List.Elements.{All-contains, All-from_recursion}
use Rattle.service_model.specs.declared.plan.Plan.{Plan}
use Rattle.service_model.specs.declared.table.Kind.{Kind}
use Rattle.service_model.specs.declared.table.Kind.TheVariants.{Down, Up, Root}
use Rattle.service_model.specs.declared.table.Table.{Table}
use Rattle.service_model.specs.Net.{Net, no_arc, arc_in}
use Rattle.service_model.specs.Plans.{Meets, inbound_at, outbound_at}
use Rattle.service_model.specs.Networks.{IsNetwork}
use Rattle.service_model.specs.Tables.{table_at, IsChild}
use Rattle.service_model.specs.LocalSums.{Sound}
use Rattle.service_model.specs.Nodes.{MeetsChild}
use Rattle.service_model.specs.Earned.{MeetsChildren}
use Rattle.service_model.proofs.ArcFacts.{transit_in-arc, leads_from_supplies}
use Rattle.split_rules.specs.declared.links.Link.{Link}
use Rattle.split_rules.specs.Links.{link_at, link_of, AreLinked, AreLinks, IsHung}
use Rattle.split_rules.proofs.TransitFacts.{transit_of}

abbrev HungAreMet : Net → List Link → Plan → Type 0
HungAreMet n links p = All (λ a. IsHung links a → Meets p a) n.arcs

-- the arc between a child and its parent is met
child_met : (kind : Kind) (n : Net) (p : Plan) (links : List Link) (c j : ℕ) → IsNetwork n → IsChild kind n.arcs c j
    → link_at links c ≡ record { parent = j; kind = kind } → HungAreMet n links p → MeetsChild kind n.arcs p c j
child_met Down n p links c j valid child link all =
    let (a, within, from, to) = leads_from_supplies n.arcs c j child in
    let hung : IsHung links (arc_in n.arcs a) = inl (
      ap (λ i. (link_at links i).kind) from ∙ ap (λ (l : Link). l.kind) link,
      ap (λ i. (link_at links i).parent) from ∙ ap (λ (l : Link). l.parent) link ∙ sym to,
    ) in
    let met = all a no_arc within hung in
    omega (arith, met, transit_of n c j a valid within (from, to), ap (outbound_at p) from, ap (inbound_at p) to)
child_met Up n p links c j valid child link all =
    let (a, within, from, to) = leads_from_supplies n.arcs j c child in
    let hung : IsHung links (arc_in n.arcs a) = inr (
      ap (λ i. (link_at links i).kind) to ∙ ap (λ (l : Link). l.kind) link,
      ap (λ i. (link_at links i).parent) to ∙ ap (λ (l : Link). l.parent) link ∙ sym from,
    ) in
    let met = all a no_arc within hung in
    omega (arith, met, transit_of n j c a valid within (from, to), ap (outbound_at p) from, ap (inbound_at p) to)
child_met Root n p links c j valid child link all = absurd child

pub children_met : (n : Net) (tables : List Table) (ks : List ℕ) (links : List Link) (p : Plan) → IsNetwork n → Sound n tables → All (λ k. k < length tables) ks
    → AreLinks n tables ks links → HungAreMet n links p → All (MeetsChildren n tables p) ks
children_met n tables ks links p valid sound there are all i d within u e inside =
    let k = get_or ks i d in
    let children = (sound.shaped k (there i d within)).children in
    let linked = All-from_recursion (λ m. AreLinked tables links m (table_at tables m).children) ks are.sets i d within in
    let link = All-from_recursion (λ c. link_at links (table_at tables c).stage ≡ link_of tables k c) (table_at tables k).children linked u e inside in
    let c = get_or (table_at tables k).children u e in
    child_met (table_at tables c).kind n p links (table_at tables c).stage (table_at tables k).stage valid (children u e inside) link all

-- what is said of a child of known kind and stages
as_told : (n : Net) (p : Plan) (kind kind' : Kind) (c c' j j' : ℕ) → kind ≡ kind' → c ≡ c' → j ≡ j' → MeetsChild kind n.arcs p c j → MeetsChild kind' n.arcs p c' j'
as_told n p kind kind' c c' j j' of_kind of_child of_parent met =
    subst (λ t. MeetsChild t n.arcs p c' j') of_kind
    (subst (λ s. MeetsChild kind n.arcs p s j') of_child (subst (λ s. MeetsChild kind n.arcs p c s) of_parent met))

-- a link that is no Root is met
linked_met : (n : Net) (tables : List Table) (ks : List ℕ) (links : List Link) (p : Plan) (j i : ℕ) (kind : Kind) → AreLinks n tables ks links
    → All (MeetsChildren n tables p) ks → kind ≢ Root → (link_at links j).kind ≡ kind → (link_at links j).parent ≡ i → MeetsChild kind n.arcs p j i
linked_met n tables ks links p j i kind are all not_root of_kind of_parent =
    let is = are.only j (λ root. not_root (sym of_kind ∙ root)) in
    let own = All-contains (MeetsChildren n tables p) ks is.parent all is.among in
    let met = All-contains
    (λ c. MeetsChild (table_at tables c).kind n.arcs p (table_at tables c).stage (table_at tables is.parent).stage)
    (table_at tables is.parent).children is.child own is.below in
    as_told n p (table_at tables is.child).kind kind (table_at tables is.child).stage j (table_at tables is.parent).stage i
    (sym (ap (λ (l : Link). l.kind) is.link) ∙ of_kind) is.stage (sym (ap (λ (l : Link). l.parent) is.link) ∙ of_parent) met

hung_met : (n : Net) (tables : List Table) (ks : List ℕ) (links : List Link) (p : Plan) (a : ℕ) → IsNetwork n → AreLinks n tables ks links
    → All (MeetsChildren n tables p) ks → a < length n.arcs → IsHung links (arc_in n.arcs a) → Meets p (arc_in n.arcs a)
hung_met n tables ks links p a valid are all within hung = ⊎_elim
    (λ below.
    let met : MeetsChild Down n.arcs p (arc_in n.arcs a).supplier (arc_in n.arcs a).customer =
    linked_met n tables ks links p (arc_in n.arcs a).supplier (arc_in n.arcs a).customer Down are all (λ is. absurd cc) below.0 below.1 in
    omega (arith, met, transit_in-arc n a valid within))
    (λ above.
    let met : MeetsChild Up n.arcs p (arc_in n.arcs a).customer (arc_in n.arcs a).supplier =
    linked_met n tables ks links p (arc_in n.arcs a).customer (arc_in n.arcs a).supplier Up are all (λ is. absurd cc) above.0 above.1 in
    omega (arith, met, transit_in-arc n a valid within))
    hung

pub all_hung_met : (n : Net) (tables : List Table) (ks : List ℕ) (links : List Link) (p : Plan) → IsNetwork n → AreLinks n tables ks links
    → All (MeetsChildren n tables p) ks → HungAreMet n links p
all_hung_met n tables ks links p valid are all a d within =
    subst (λ x. IsHung links x → Meets p x) (get_or_default n.arcs a no_arc d within) (hung_met n tables ks links p a valid are all within)
