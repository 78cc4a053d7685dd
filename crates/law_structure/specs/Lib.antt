pub mod Within
pub mod Jumps
pub mod Reaches
pub mod Numbers
pub mod Sites
pub mod Outermost
