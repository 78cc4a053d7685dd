pub mod Climbing
pub mod Straight
pub mod Related
pub mod Lists
pub mod Members
pub mod Unique
pub mod Hierarchies
pub mod Listed
