pub mod Law
pub mod States
pub mod Forms
pub mod Uniform
pub mod Composed
