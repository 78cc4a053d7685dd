pub mod Telling
pub mod Regions
pub mod Between
pub mod Scoping
pub mod Passes
pub mod Evident
pub mod Blocking
pub mod Answering
mod Rows
