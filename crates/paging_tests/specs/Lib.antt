pub mod EvenLists
pub mod Alike
