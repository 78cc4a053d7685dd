pub mod Meaning
pub mod Operators
pub mod Members
pub mod Elaboration
pub mod Views
pub mod Groups
pub mod Parts
pub mod TextPlaces
