pub mod Programs
pub mod Texts
pub mod Openings
pub mod Bodies
pub mod Mains
pub mod Sources
