pub mod Held
pub mod Frames
pub mod Locals
pub mod Backtrace
