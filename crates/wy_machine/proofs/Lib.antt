pub mod Starts
pub mod Going
mod Throws
pub mod Ends
pub mod Mirrors
pub mod Agreeing
pub mod Tails
pub mod Handing
pub mod Taking
pub mod Turns
pub mod Runs
