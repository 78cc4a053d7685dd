mod Known
mod Slots
mod Plain
mod Values
mod Records
mod Ends
mod TraceWhole
mod Told
mod Input
pub mod Wider
pub mod Standing
pub mod Staying
pub mod Final
pub mod Calls
pub mod Said
pub mod Printing
pub mod PrintingClasses
pub mod StatementCalls
pub mod ClassCalls
pub mod Ending
pub mod TextWhole
mod Rows
mod FewStatements
mod Short
