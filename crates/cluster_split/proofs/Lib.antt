mod ReachFacts
mod TopFacts
mod MergeFacts
mod PlaceFacts
pub mod JoinFacts
mod TreeFacts
mod BridgeFacts
mod HeadFacts
mod NumberFacts
pub mod ClusterLaws
