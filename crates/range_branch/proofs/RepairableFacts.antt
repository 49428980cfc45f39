-- The relaxed plan of a node can be repaired.
use Rattle.std.proofs.Common.{ℕ, List, Option, Some, None, arith}
use Rattle.std.specs.Prelude.{IfSome}
use Rattle.service_model.specs.declared.plan.Plan.{Plan}
use Rattle.service_model.specs.declared.range.Range.{Range}
use Rattle.service_model.specs.declared.table.Table.{Table}
use Rattle.service_model.specs.declared.cert.Node.{Node}
use Rattle.service_model.specs.Net.{Net}
use Rattle.service_model.specs.Nodes.{bound_of}
use Rattle.service_model.specs.Repairs.{IsRepairable}
use Rattle.tree_order.specs.declared.forest.Forest.{Forest}
use Rattle.arc_relax.specs.Laws.{HasPlan}
use Rattle.range_nodes.specs.Nodes.{IsRangeNode}
use Rattle.range_branch.specs.Progress.{IsInside}

by_plan : (n : Net) (r : Range) (parent : List ℕ) (bound : ℕ) (plan : Option Plan) → IsInside n r → HasPlan n r parent bound plan → IfSome plan (IsRepairable n)
by_plan n r parent bound None inside has = tt
by_plan n r parent bound (Some p) inside has =
    let relaxed = has.0 in
    record {
      times = relaxed.times;
      stages = λ j low.
          let fits = relaxed.stages j low in
          let within = (inside.inside j low).1 in
          (fits.not_above, omega (arith, fits.not_late, within));
    }

pub repairable : (n : Net) (f : Forest) (tables : List Table) (r : Range) (x : Node) → IsInside n r → IsRangeNode n f tables r x
    → IfSome x.relaxed (IsRepairable n)
repairable n f tables r x inside node = by_plan n r f.parent (bound_of tables x.roots) x.relaxed inside node.plan
