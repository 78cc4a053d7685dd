pub mod Plan
pub mod Layout
pub mod Layouts
pub mod Block
pub mod Heap
pub mod Changes
