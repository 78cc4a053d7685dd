pub mod Members
pub mod Chains
pub mod Goodness
pub mod Numbers
pub mod Reading
pub mod Lines
pub mod Made
pub mod Example
