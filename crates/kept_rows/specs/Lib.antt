pub mod KeptCode
pub mod KeptEntries
