pub mod Format
pub mod Refusals
pub mod Calls
pub mod Sections
pub mod Parts
pub mod Writing
pub mod Hex
pub mod Figures
