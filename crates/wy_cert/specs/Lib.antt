pub mod Spelling
pub mod Reading
pub mod Goodness
pub mod Made
