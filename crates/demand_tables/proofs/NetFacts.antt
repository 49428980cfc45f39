-- Records as they are read are such that excess demands can be made of them.
use Rattle.stage_file.specs.declared.raw.RawNet.{RawNet}
use Rattle.stage_file.specs.Raw.{IsRawNet}
use Rattle.demand_tables.specs.DemandNet.{IsDemandNet}

pub read_is_demand : (raw : RawNet) → IsRawNet raw → IsDemandNet raw
read_is_demand raw read = record {
  few_stages = read.stages.few;
  few_arcs = read.arcs.few;
  ends = λ k d inside. (let arc = read.arcs.within k d inside in record { supplier = arc.supplier; customer = arc.customer });
  quantities = λ k d inside. (read.arcs.within k d inside).quantity;
  entries = λ k d inside. (read.tables.within k d inside).some;
  names = read.tables.distinct;
}
