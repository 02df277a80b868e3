pub mod Ranks
pub mod Strips
pub mod Laws
pub mod Answered
pub mod Bounds
pub mod Takes
