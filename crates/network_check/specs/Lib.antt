pub mod Budgets
pub mod Checked
pub mod Refusals
