pub mod StepFacts
pub mod RunFacts
pub mod CarryFacts
pub mod HaltFacts
