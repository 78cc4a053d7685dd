pub mod Encodings
pub mod Laws
pub mod Numerals
pub mod Ranges
pub mod Texts
pub mod Wrapping
