-- The node of what came, from what calls give.
use Rattle.std.proofs.Common.{◌≡◌, ℕ, ◌<◌, List, length, sym, subst}
use Rattle.std.specs.Prelude.{All}
use Rattle.service_model.specs.declared.range.Range.{Range}
use Rattle.service_model.specs.declared.table.Kind.TheVariants.{Root}
use Rattle.service_model.specs.declared.table.Table.{Table}
use Rattle.service_model.specs.declared.cert.Node.{Node}
use Rattle.service_model.specs.Net.{Net}
use Rattle.service_model.specs.Tables.{table_at, IsShaped}
use Rattle.service_model.specs.LocalSums.{Sound}
use Rattle.service_model.specs.Nodes.{IsNode}

pub node_as : (n m : Net) (tables ts : List Table) (range r : Range) (x y : Node) → m ≡ n → ts ≡ tables → r ≡ range → y ≡ x → IsNode n tables range x.roots
    → IsNode m ts r y.roots
node_as n m tables ts range r x y net same ranges nodes is =
    subst (λ (k : Net). IsNode k ts r y.roots) (sym net)
    (subst (λ (us : List Table). IsNode n us r y.roots) (sym same)
    (subst (λ (s : Range). IsNode n tables s y.roots) (sym ranges)
    (subst (λ (z : Node). IsNode n tables range z.roots) (sym nodes) is)))

pub shaped_as : (n : Net) (tables ts : List Table) → ts ≡ tables → Sound n tables → (m : Net) × ((k : ℕ) → k < length ts → IsShaped m ts k (table_at ts k))
shaped_as n tables ts same sound = (n, subst (λ (us : List Table). (k : ℕ) → k < length us → IsShaped n us k (table_at us k)) (sym same) sound.shaped)

-- the numbers of roots, and that they are roots
abbrev pub AreRoots : List Table → List ℕ → Type 0
AreRoots tables roots = All (λ k. (k < length tables) × ((table_at tables k).kind ≡ Root)) roots

roots_as : (tables ts : List Table) (roots rs : List ℕ) → ts ≡ tables → rs ≡ roots → AreRoots tables roots → AreRoots ts rs
roots_as tables ts roots rs same equal are =
    subst (λ (us : List Table). AreRoots us rs) (sym same) (subst (AreRoots tables) (sym equal) are)

pub roots_there : (tables ts : List Table) (roots rs : List ℕ) → ts ≡ tables → rs ≡ roots → AreRoots tables roots → All (λ k. k < length ts) rs
roots_there tables ts roots rs same equal are = λ k d within. (roots_as tables ts roots rs same equal are k d within).0

pub roots_kinds : (tables ts : List Table) (roots rs : List ℕ) → ts ≡ tables → rs ≡ roots → AreRoots tables roots → All (λ k. (table_at ts k).kind ≡ Root) rs
roots_kinds tables ts roots rs same equal are = λ k d within. (roots_as tables ts roots rs same equal are k d within).1
