pub mod Opening
pub mod Below
pub mod Lows
