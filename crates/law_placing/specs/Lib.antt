pub mod Placed
pub mod Ended
