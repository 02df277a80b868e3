pub mod JoinedPages
pub mod KeptPages
pub mod PaddedPages
pub mod PlacedStrips
