pub mod Stops
pub mod Choice
pub mod Law
pub mod Examples
pub mod StopNumbers
pub mod Stretches
