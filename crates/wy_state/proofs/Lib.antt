pub mod Onward
mod Agreement
mod Budget
mod Numbers
mod Bodies
mod Statics
mod Slots
pub mod Records
mod Lying
mod Climbing
mod Names
mod Makers
mod Texts
mod Inits
