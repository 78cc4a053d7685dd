mod Computed
mod Builtin
pub mod Rows
mod Failures
mod Objects
mod Texts
mod Bank
mod Control
mod Forms
mod Answers
mod Orders
mod Limits
mod Operators
