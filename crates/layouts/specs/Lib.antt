pub mod DisjunctCode
pub mod Layout
pub mod LaidOut
pub mod OwnWords
pub mod Opened
