pub mod Sums
pub mod Becoming
