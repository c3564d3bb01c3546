pub mod DisjunctEnds
pub mod Disjuncts
