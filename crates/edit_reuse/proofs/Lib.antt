mod BudgetFacts
mod Countable
mod Growth
mod SessionFacts
mod StageColumns
pub mod StepLaws
