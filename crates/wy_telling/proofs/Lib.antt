pub mod Looks
pub mod Prints
pub mod Throws
pub mod EndSites
pub mod Values
pub mod Merging
pub mod Answering
pub mod Asked
mod Rows
mod Clauses
mod Named
mod One
mod NamedIn
mod Called
