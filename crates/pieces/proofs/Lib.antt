pub mod EachPart
pub mod FairRows
