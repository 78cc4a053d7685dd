pub mod Record
pub mod Numbers
pub mod Sources
