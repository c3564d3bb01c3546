pub mod AnsweredConversions
pub mod ConversionRefusals
pub mod JudgedAlike
pub mod RoundTrips
