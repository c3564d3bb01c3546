pub mod Runs
pub mod FormCode
pub mod OtherCode
pub mod Steps
pub mod Given
pub mod EntryRuns
pub mod Parts
pub mod Answered
