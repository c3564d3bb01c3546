pub mod TrimOutcomes
