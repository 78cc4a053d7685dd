pub mod Complete
pub mod Written
pub mod Laws
