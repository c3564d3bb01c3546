pub mod DisjunctCode
pub mod LaidOut
pub mod LayoutLaws
pub mod OwnWords
