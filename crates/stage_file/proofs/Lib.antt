pub mod ArcFacts
pub mod ArcLimits
pub mod EndFacts
pub mod FaultFacts
pub mod FieldFacts
pub mod LimitFacts
pub mod ListFacts
pub mod NameFacts
pub mod PlanFacts
pub mod RecordFacts
mod RowFacts
pub mod StageNameFacts
pub mod StageFacts
pub mod StageLimits
pub mod TableFacts
pub mod TableLimits
pub mod TimeFacts
