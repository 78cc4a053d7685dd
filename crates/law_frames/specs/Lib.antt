pub mod Joined
pub mod Bodies
