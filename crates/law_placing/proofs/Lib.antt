mod Placing
mod Telling
mod Endings
mod Sealing
