pub mod Last
pub mod Frames
pub mod Entries
pub mod CallStacks
pub mod Chain
pub mod Rows
