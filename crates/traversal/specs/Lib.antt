pub mod Plots
pub mod Worlds
pub mod Units
pub mod Shapes
pub mod Refusals
pub mod Calls
