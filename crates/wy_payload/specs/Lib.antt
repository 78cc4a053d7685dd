pub mod Ranges
pub mod Rules
pub mod Reading
pub mod Places
pub mod Values
pub mod Events
pub mod Closing
pub mod Bodies
