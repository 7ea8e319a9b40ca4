pub mod Ends
pub mod Making
pub mod Placing
pub mod Growing
pub mod Counting
pub mod Writing
