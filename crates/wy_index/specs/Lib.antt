pub mod Order
pub mod Found
pub mod Kept
pub mod Findings
pub mod Index
pub mod Halving
pub mod Finds
