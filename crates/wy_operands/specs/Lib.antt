pub mod Values
pub mod Layout
