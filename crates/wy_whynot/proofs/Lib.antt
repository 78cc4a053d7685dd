pub mod Crossing
pub mod Chaining
pub mod Begun
pub mod Firsts
pub mod Targeting
pub mod Answering
