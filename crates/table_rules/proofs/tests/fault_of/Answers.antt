-- A table that keeps its rules over no tables has no children.
use Rattle.std.proofs.Common.{ℕ, zero, suc, [], ◌∷◌, None, Option, subst, arith}
use Rattle.std.specs.Prelude.{IfNone}
use Rattle.service_model.specs.declared.cert_rules.TheConstants.{TABLE, CHILD}
use Rattle.service_model.specs.declared.table.Table.{Table}
use Rattle.service_model.specs.Net.{Net}
use Rattle.service_model.specs.CertRules.{IsFirstOf, TableRule}
use Rattle.table_rules.specs.Shapes.{AreShaped}
use Rattle.table_rules.proofs.tests.fault_of.Goals as goal

alone_shaped : (n : Net) (t : Table) → ((k : ℕ) → TableRule n [] t k) → AreShaped n (t ∷ [])
alone_shaped n t keeps zero low = record {
  sized = (keeps TABLE).sized;
  earlier = keeps CHILD;
  children = λ k d within. absurd (omega (arith, keeps CHILD k d within));
}
alone_shaped n t keeps (suc i) low = absurd (omega arith)

pub fault_over-requires-in-None-clause-shaped : goal.fault_over-requires-in-None-clause-shaped
fault_over-requires-in-None-clause-shaped c =
    let rules = IsFirstOf (TableRule c.args.network.now [] c.in_ok-first.first) None in
    alone_shaped c.args.network.now c.in_ok-first.first
    (subst (λ (fault : Option ℕ). IfNone fault rules) c.in-None.is (c.in_ok-fault.ensures.rules))
