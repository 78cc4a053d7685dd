pub mod Syntax
pub mod Names
pub mod Expressions
pub mod Statements
pub mod Declarations
pub mod View
