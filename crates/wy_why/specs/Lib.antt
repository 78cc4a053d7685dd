pub mod Marks
pub mod Uses
pub mod Answer
pub mod Sources
pub mod Walk
