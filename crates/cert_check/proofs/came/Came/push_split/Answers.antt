use Rattle.std.proofs.Common.{◌≡◌, ◌≢◌, List, [], ◌∷◌, ◌++◌, map, ap, ◌∙◌, subst}
use Rattle.std.specs.Prelude.{◌↔◌, Contains}
use Rattle.std.proofs.lemmas.List.{map_push}
use Rattle.service_model.specs.declared.cert.Split.{Split}
use Rattle.service_model.specs.declared.cert.Item.TheVariants.{Split as SplitItem}
use Rattle.service_model.specs.Held.{Held, held_with}
use Rattle.split_rules.specs.declared.leaves.Leaf.{Leaf}
use Rattle.cert_check.specs.declared.came.Parted.{Parted}
use Rattle.cert_check.specs.Arrivals.{Arrivals}
use Rattle.cert_check.proofs.came.Came.push_split.Goals as goal

pub returns-clause-ok : goal.returns-clause-ok
returns-clause-ok c =
    let f = c.self.inside in
    let new : Parted = record { split = c.args.split; halves = c.args.halves } in
    let with_splits = λ (ss : List Split). (let h : Held = record { head = f.head; tables = f.tables; nodes = f.nodes; splits = ss; verdict = f.verdict } in h) in
    let leaf : Leaf = record { bound = c.args.bound; node = c.args.split.node } in
    let splits : map (λ (p : Parted). p.split) c.push.new.self ≡ map (λ (p : Parted). p.split) f.parted ++ c.args.split ∷ [] =
    ap (map (λ (p : Parted). p.split)) c.in_default.ensures.ok ∙ map_push (λ (p : Parted). p.split) f.parted new in
    let halves : map (λ (p : Parted). p.halves) c.push.new.self ≡ map (λ (p : Parted). p.halves) f.parted ++ c.args.halves ∷ [] =
    ap (map (λ (p : Parted). p.halves)) c.in_default.ensures.ok ∙ map_push (λ (p : Parted). p.halves) f.parted new in
    record {
      held = ap with_splits splits ∙ ap (λ (a : Arrivals). held_with a.held (SplitItem c.args.split)) c.self.view_is;
      halves = halves ∙ ap (λ (a : Arrivals). a.halves ++ c.args.halves ∷ []) c.self.view_is;
      leaves = subst (λ (xs : List Leaf). (q : Leaf) → Contains c.remove.new.self q ↔ (Contains xs q × (q ≢ leaf))) (ap (λ (a : Arrivals). a.leaves) c.self.view_is) c.remove.ensures;
    }
