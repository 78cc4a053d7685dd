pub mod Graph
pub mod Leads
pub mod Numbers
pub mod Order
pub mod Frontier
