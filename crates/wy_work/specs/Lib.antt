pub mod Operands
pub mod Listed
pub mod Expressions
pub mod Statements
pub mod Tasks
pub mod Machines
pub mod Calls
pub mod Handlers
