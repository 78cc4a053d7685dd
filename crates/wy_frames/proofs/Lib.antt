pub mod Takes
pub mod Scans
pub mod Openings
pub mod Pieces
pub mod Fed
pub mod Kept
pub mod Decoded
