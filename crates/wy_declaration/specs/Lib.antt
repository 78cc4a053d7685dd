pub mod Parts
pub mod Methods
