pub mod SourceLines
pub mod Places
pub mod Groups
pub mod Rows
pub mod Asked
pub mod Stops
pub mod Shown
pub mod Laws
