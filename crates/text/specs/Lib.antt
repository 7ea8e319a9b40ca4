pub mod Hex
pub mod Answers
pub mod Damages
