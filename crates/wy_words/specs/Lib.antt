pub mod Words
pub mod Awaited
pub mod Reading
pub mod Table
pub mod Found
pub mod Views
