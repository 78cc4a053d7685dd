pub mod Escapes
pub mod Pieces
pub mod Template
pub mod Page
pub mod Rows
pub mod Reading
pub mod Tags
pub mod Laws
