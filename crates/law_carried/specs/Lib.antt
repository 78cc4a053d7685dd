pub mod Backward
pub mod Agreement
pub mod Closing
