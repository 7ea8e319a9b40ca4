pub mod Languages
pub mod Words
pub mod Names
pub mod Numerals
pub mod Hexes
pub mod Chain
