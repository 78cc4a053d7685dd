pub mod Places
pub mod Making
pub mod Parts
pub mod Jumps
pub mod Statements
pub mod Views
pub mod Bodies
