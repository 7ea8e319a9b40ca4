pub mod Order
pub mod Places
pub mod Values
pub mod Stacks
