pub mod Positions
pub mod Fields
pub mod Upward
pub mod Texts
pub mod Forms
pub mod Lasting
pub mod Owning
pub mod Looking
pub mod Members
pub mod Plain
pub mod OneValue
pub mod Watching
mod Rows
