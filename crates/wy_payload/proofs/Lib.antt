pub mod Rows
pub mod Newlines
pub mod Tags
pub mod Readers
