pub mod Small
pub mod SmallLaws
pub mod Magnitudes
