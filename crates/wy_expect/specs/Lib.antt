pub mod Beside
pub mod Expected
pub mod Laws
pub mod Printers
pub mod Texts
