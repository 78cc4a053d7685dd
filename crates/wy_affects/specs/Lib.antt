pub mod Affected
pub mod Given
pub mod Pass
