pub mod EndLines
pub mod Names
pub mod Values
pub mod Places
pub mod EventLines
pub mod Sources
pub mod FrameLines
