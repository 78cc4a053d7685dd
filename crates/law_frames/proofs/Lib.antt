mod Reading
mod Frames
