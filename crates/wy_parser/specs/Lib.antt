pub mod Prediction
pub mod Reading
pub mod Looks
pub mod Symbols
pub mod Rules
pub mod Parsed
pub mod Causes
