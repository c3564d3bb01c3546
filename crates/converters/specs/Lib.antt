pub mod OtherEntries
pub mod WholeWords
pub mod Outcomes
