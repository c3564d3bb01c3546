pub mod ConversionOutcomes
