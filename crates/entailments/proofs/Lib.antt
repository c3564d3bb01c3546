pub mod Bounds
pub mod GuardRows
pub mod ImageSizes
pub mod OpCases
pub mod PremiseSizes
pub mod SumsFit
