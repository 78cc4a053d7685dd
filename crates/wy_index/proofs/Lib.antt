pub mod Numbers
pub mod Orders
pub mod Firsts
pub mod Gathering
pub mod Findings
pub mod Writes
pub mod Creations
pub mod Building
mod Rows
