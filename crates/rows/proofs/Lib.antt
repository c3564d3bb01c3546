pub mod Agreement
pub mod Blocks
pub mod Rounding
pub mod Values
pub mod WeightedSum
pub mod ZeroPremise
