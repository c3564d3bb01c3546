pub mod UseTable
pub mod Packed
pub mod Passes
