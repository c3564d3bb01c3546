pub mod Rows
pub mod Columns
pub mod Rounding
pub mod ZeroPremise
pub mod Opened
