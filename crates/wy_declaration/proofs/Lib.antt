pub mod Rows
pub mod Split
pub mod Forms
pub mod Headers
pub mod Constructors
pub mod Classes
pub mod Programs
