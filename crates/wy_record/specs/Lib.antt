pub mod Recorders
