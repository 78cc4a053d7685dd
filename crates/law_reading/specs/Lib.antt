pub mod OneReading
pub mod Referring
pub mod Spelled
pub mod Readable
pub mod WithinRules
