pub mod GrammarOutcomes
