pub mod Classes
pub mod ClassViews
pub mod Program
pub mod MainMethod
pub mod Whole
pub mod Elaborates
