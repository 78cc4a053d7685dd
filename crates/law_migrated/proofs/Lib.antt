mod Fields
mod Events
mod Ends
mod Heads
mod Frames
mod Whole
mod Versions
