pub mod Statements
pub mod Own
pub mod Laws
pub mod KeptLibrary
