pub mod Counts
pub mod Failing
pub mod Memory
pub mod Shelf
pub mod Sink
pub mod Source
