pub mod Marking
pub mod Closures
pub mod Walking
pub mod Ends
pub mod Ordered
pub mod Listing
