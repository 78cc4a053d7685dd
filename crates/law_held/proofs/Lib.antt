mod Stores
mod Instance
mod Theorem
