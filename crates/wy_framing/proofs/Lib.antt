pub mod Fronts
pub mod Replaced
pub mod Room
pub mod Traces
pub mod Written
