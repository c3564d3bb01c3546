pub mod ExpressionEntries
pub mod SumLaws
pub mod Copied
pub mod ImageColumns
pub mod UsedSums
