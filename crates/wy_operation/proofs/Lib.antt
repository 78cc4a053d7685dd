pub mod Runs
pub mod Exceptions
pub mod Kept
mod Operators
mod Places
pub mod Updates
mod Endings
pub mod Arrays
mod Binds
pub mod Clauses
mod TextRuns
pub mod TextForms
mod Arguments
mod Numbers
mod LibraryOperations
