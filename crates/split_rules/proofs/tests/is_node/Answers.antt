use Rattle.std.proofs.Common.{◌≡◌, ℕ, List, [], length, Option, None, Some, refl, sym, ◌∙◌, subst}
use Rattle.std.specs.Prelude.{All, IfSome}
use Rattle.service_model.specs.declared.cert_rules.TheConstants.{ROOT, FITS, STAGE_TWICE, RELAXED}
use Rattle.service_model.specs.declared.range.Range.{Range}
use Rattle.service_model.specs.declared.table.Table.{Table}
use Rattle.service_model.specs.declared.cert.Node.{Node}
use Rattle.service_model.specs.Net.{Net}
use Rattle.service_model.specs.Plans.{HasTimes}
use Rattle.service_model.specs.Ranges.{whole_of}
use Rattle.service_model.specs.Nodes.{IsNode}
use Rattle.service_model.specs.Held.{Held, budget_of, range_of}
use Rattle.service_model.specs.CertRules.{NodeRule, IsFirstOf}
use Rattle.split_rules.proofs.tests.is_node.Goals as goal

-- these tables came, and no node yet
abbrev first_of : List Table → Held
first_of tables = record { head = Some (record { horizon = 0; stages = 0; budget = 1 }); tables = tables; nodes = []; splits = []; verdict = None }

no_fault : (n : Net) (tables : List Table) (r : Range) (x : Node) (fault : Option ℕ) → r ≡ whole_of n
    → ((h : Held) → h.tables ≡ tables → length h.nodes ≡ 0 → budget_of h ≡ 1 → range_of n h 0 ≡ r → IsFirstOf (NodeRule n h x) fault) → fault ≡ None
    → IsNode n tables r x.roots × IfSome x.relaxed (HasTimes n)
no_fault n tables r x fault whole first is =
    let rules = subst (IsFirstOf (NodeRule n (first_of tables) x)) is (first (first_of tables) refl refl refl (sym whole)) in
    let roots = rules ROOT in (
      subst (λ (q : Range). IsNode n tables q x.roots) (sym whole)
          (record {
            there = λ a d inside. (roots a d inside).0;
            kinds = λ a d inside. (roots a d inside).1;
            fits = rules FITS;
            once = rules STAGE_TWICE;
          }),
      rules RELAXED,
    )

pub returns-in-None : goal.returns-in-None
returns-in-None c =
    let known = no_fault c.args.network.now c.args.tables.now c.args.range.now c.args.node.now c.in_ok-fault.fault c.requires.whole c.in_ok-fault.ensures.first c.in-None.is in
    record { fits = λ yes'. known.0; times = λ yes'. known.1 }
