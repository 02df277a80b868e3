pub mod Lawful
pub mod Bales
