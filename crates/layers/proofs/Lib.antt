pub mod JoinedParts
pub mod PaddedStrips
pub mod Passing
pub mod Places
pub mod SameStrips
pub mod TwoLists
