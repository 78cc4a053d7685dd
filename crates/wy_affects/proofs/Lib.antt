pub mod Ranges
pub mod Giving
pub mod Upward
mod Rows
