pub mod Texts
pub mod Reading
pub mod Pieces
