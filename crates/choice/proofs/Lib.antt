pub mod Limits
pub mod Heights
pub mod Picks
pub mod Ends
pub mod Between
pub mod Weighing
pub mod Fronts
