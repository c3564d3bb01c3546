pub mod AskedLaws
pub mod FilePromises
pub mod PlanConversions
pub mod TrimmedFiles
