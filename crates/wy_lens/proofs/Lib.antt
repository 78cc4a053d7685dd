mod Asked
mod Delivered
mod Said
mod Sources
mod Told
mod Replies
mod Pairs
