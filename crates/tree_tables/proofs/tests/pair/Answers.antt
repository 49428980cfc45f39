-- The second table is filled over the first alone.
use Rattle.std.proofs.Common.{◌≡◌, List, [], ◌∷◌, ◌++◌, Option, sym, ap, ◌∙◌, subst}
use Rattle.std.specs.Prelude.{IfSome}
use Rattle.std.specs.List.{AllByRecursion}
use Rattle.service_model.specs.declared.table.Table.{Table}
use Rattle.service_model.specs.Net.{Net}
use Rattle.service_model.specs.Nodes.{AreTightBelow}
use Rattle.tree_tables.specs.Fills.{IsAsWanted, IsFill}
use Rattle.tree_tables.proofs.FillLaws.{tight_below_filled}
use Rattle.tree_tables.proofs.tests.pair.Goals as goal

pair_tight : (n : Net) (none one two : List Table) (a r : Table) → none ≡ [] → one ≡ none ++ a ∷ [] → two ≡ one ++ r ∷ []
    → IsFill n [] a → a.children ≡ [] → IsFill n one r → r.children ≡ 0 ∷ [] → AreTightBelow n two 1
pair_tight n none one two a r empty first second filled leaf filled' above =
    let is : one ≡ a ∷ [] = first ∙ ap (λ (ts : List Table). ts ++ a ∷ []) empty in
    let below : AreTightBelow n (a ∷ []) 0 = tight_below_filled n [] a filled (subst (AllByRecursion (AreTightBelow n [])) (sym leaf) tt) in
    let both : AreTightBelow n (a ∷ r ∷ []) 1 =
    tight_below_filled n (a ∷ []) r (subst (λ (ts : List Table). IsFill n ts r) is filled')
    (subst (AllByRecursion (AreTightBelow n (a ∷ []))) (sym above) (below, tt)) in
    subst (λ (ts : List Table). AreTightBelow n ts 1) (sym (second ∙ ap (λ (ts : List Table). ts ++ r ∷ []) is)) both

pub returns-clause-tight : goal.returns-clause-tight
returns-clause-tight c =
    let n = c.args.network.now in
    let first = subst (λ (o : Option Table). IfSome o (IsFill n [])) c.in-Some.is c.in_ok-first.ensures.filled in
    let leaf = subst (λ (o : Option Table). IfSome o (IsAsWanted c.args.leaf.now)) c.in-Some.is c.in_ok-first.ensures.wanted in
    let second = subst (λ (o : Option Table). IfSome o (IsFill n c.deref.result.now)) c.in-Some-2.is c.in_ok-second.ensures.filled in
    let above = subst (λ (o : Option Table). IfSome o (IsAsWanted c.args.above.now)) c.in-Some-2.is c.in_ok-second.ensures.wanted in
    pair_tight n c.new-made.result.items c.push.new.self.items c.push-2.new.self.items c.in-Some.first c.in-Some-2.second c.new-made.ensures.items
    c.in_ok-push.ensures.items c.in_ok-push-2.ensures.items first (leaf.children ∙ c.requires.leaf)
    (subst (λ (ts : List Table). IsFill n ts c.in-Some-2.second) c.deref.ensures.value second) (above.children ∙ c.requires.above)
