pub mod Histories
pub mod Rooting
