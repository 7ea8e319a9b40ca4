pub mod Arrays
mod Blocks
pub mod Chunks
mod Digits
mod Ending
pub mod Lengths
mod Schedule
