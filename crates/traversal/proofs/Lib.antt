pub mod Plotting
pub mod Homes
pub mod Sections
pub mod Advancing
pub mod Beginning
pub mod Drafting
pub mod Stepping
pub mod Lending
