mod SourceWalk
pub mod Tables
mod Texts
mod Folding
mod Listing
mod Grouping
mod Slicing
mod Questions
mod Adding
