pub mod Decided
pub mod Types
pub mod Methods
pub mod Judged
pub mod One
