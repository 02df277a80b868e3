pub mod Forms
pub mod Heights
pub mod NextPage
pub mod PaddedPages
pub mod JoinedPages
pub mod KeptPages
