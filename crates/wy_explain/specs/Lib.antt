pub mod Rows
pub mod Tables
pub mod Places
pub mod Windows
pub mod Samples
pub mod Views
pub mod Explained
