pub mod Lengths
pub mod Numbers
mod Example
