pub mod Blocks
mod Examples
pub mod Found
pub mod Upward
pub mod Views
pub mod Arms
pub mod Layers
pub mod Last
pub mod Placing
