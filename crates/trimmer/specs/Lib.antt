pub mod LeastWords
pub mod Selected
pub mod TrimOutcomes
