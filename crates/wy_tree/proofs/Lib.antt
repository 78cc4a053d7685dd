pub mod Tags
pub mod Views
pub mod Pending
pub mod Once
pub mod Order
pub mod Ends
pub mod LineEnds
