mod Prints
mod Ends
mod Whole
