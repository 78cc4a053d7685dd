mod Places
mod Stacks
mod Puts
