pub mod Laws
pub mod Texts
pub mod Programs
pub mod Sources
pub mod Openings
