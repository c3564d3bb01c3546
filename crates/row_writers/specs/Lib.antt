pub mod Arrays
pub mod DenseRows
pub mod WholeRows
