pub mod Outcomes
pub mod OutcomePromises
pub mod WritingOutcomes
