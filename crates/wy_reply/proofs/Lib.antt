pub mod Reports
pub mod Tellings
pub mod Carrying
mod Affecting
mod Blocking
mod ByRun
mod SizesLine
pub mod Referring
pub mod Answering
pub mod Opening
pub mod Certifying
pub mod Seals
pub mod Anew
