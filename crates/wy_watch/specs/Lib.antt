pub mod Only
pub mod Watched
pub mod Sight
pub mod Names
pub mod Value
pub mod Looks
pub mod Watch
