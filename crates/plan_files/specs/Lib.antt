pub mod FileReading
pub mod PlanLines
pub mod LinePromises
