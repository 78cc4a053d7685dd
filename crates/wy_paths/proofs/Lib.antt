pub mod Spreading
pub mod Sorting
pub mod Chaining
pub mod Orders
pub mod Numbering
pub mod Bridging
pub mod Lists
pub mod Placing
