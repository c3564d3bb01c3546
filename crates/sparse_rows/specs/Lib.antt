pub mod SparsePlaces
pub mod SparseLoops
pub mod Walks
