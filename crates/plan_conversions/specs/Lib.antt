pub mod FileWriting
pub mod PlanConversions
pub mod FilePromises
pub mod TrimmedFiles
pub mod Asked
