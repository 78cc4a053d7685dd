pub mod Counts
pub mod References
pub mod View
pub mod Whole
