pub mod Frames
pub mod Blocks
pub mod Refusals
pub mod Paged
pub mod Places
pub mod Reads
pub mod Noted
pub mod Opening
