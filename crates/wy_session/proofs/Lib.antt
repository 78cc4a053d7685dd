mod Parts
mod Stopping
mod Reading
mod Finishing
mod Talking
mod OneTalk
mod Saying
mod Replying
mod Framing
pub mod Fewer
mod Desks
mod Viewing
