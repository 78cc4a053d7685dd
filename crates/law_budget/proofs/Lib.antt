pub mod BudgetRules
pub mod Forms
pub mod Programs
pub mod BudgetTheorem
mod LongerRules
mod Instance
mod LongerTheorem
