pub mod Spelled
pub mod Held
pub mod Meant
pub mod Built
pub mod Rows
pub mod Steps
pub mod Walking
pub mod Whole
pub mod Top
pub mod Scan
pub mod Parsed
pub mod Told
mod Digits
