mod Steps
mod Walking
mod Agreeing
mod Lines
mod Partings
mod Written
