pub mod Giving
pub mod Reading
pub mod Bodies
pub mod Written
pub mod Outward
mod Rows
