pub mod Answers
pub mod Tested
pub mod TestedLaws
pub mod Written
