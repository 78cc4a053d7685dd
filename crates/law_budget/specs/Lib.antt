pub mod Budget
pub mod Longer
