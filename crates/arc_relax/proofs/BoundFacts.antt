-- The bound of the roots' tables is the least cost of the plans of the range that meet the kept arcs.
use Rattle.std.proofs.Common.{ℕ, List, length, inl, inr, ⊎_elim, arith}
use Rattle.std.proofs.lemmas.Bool.{cases_lt}
use Rattle.service_model.specs.declared.limits.TheConstants.{INF}
use Rattle.service_model.specs.declared.range.Range.{Range}
use Rattle.service_model.specs.declared.table.Table.{Table}
use Rattle.service_model.specs.Net.{Net}
use Rattle.service_model.specs.Networks.{IsNetwork}
use Rattle.service_model.specs.Nodes.{bound_of}
use Rattle.service_model.specs.Relaxed.{IsRelaxedLeast}
use Rattle.tree_order.specs.declared.forest.Forest.{Forest}
use Rattle.tree_order.specs.Forest.{IsForest}
use Rattle.gsm_laws.proofs.WholeFacts.{whole_law}
use Rattle.arc_relax.specs.StageTables.{HaveTables, root_numbers}
use Rattle.arc_relax.proofs.WholeFacts.{whole_node, tight_roots}
use Rattle.arc_relax.proofs.TraceFacts.{relaxed_traced, traced_relaxed}

pub bound_least : (n : Net) (r : Range) (f : Forest) (tables : List Table) (numbers : List ℕ) → IsNetwork n → IsForest (length n.stages) n.arcs f
    → HaveTables n r f tables numbers → IsRelaxedLeast n r f.parent (bound_of tables (root_numbers f numbers))
bound_least n r f tables numbers valid forest has =
    let law = whole_law n tables (root_numbers f numbers) (tight_roots n r f tables numbers forest has) (whole_node n r f tables numbers forest has) in
    record {
      lower = λ p relaxed. law.lower p (relaxed_traced n r f tables numbers p valid forest has relaxed);
      reached = ⊎_elim
          (λ small.
          let found = law.reached small in
          inr (found.0, traced_relaxed n r f tables numbers found.0 valid forest has found.1 found.2 (omega (arith, found.3, small)), found.3))
          (λ top. inl (omega (arith, top)))
          (cases_lt (bound_of tables (root_numbers f numbers)) INF);
    }
