pub mod Begins
pub mod Fields
