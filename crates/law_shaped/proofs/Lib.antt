mod Fits
mod Instance
mod Theorem
