pub mod Parting
pub mod Compared
pub mod Laws
