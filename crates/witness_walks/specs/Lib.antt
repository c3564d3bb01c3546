pub mod Counts
pub mod Marks
pub mod WalkSteps
pub mod Witnessed
