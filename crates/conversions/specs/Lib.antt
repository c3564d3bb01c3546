pub mod Conversions
pub mod RoundTrips
pub mod ConversionRefusals
pub mod JudgedAlike
pub mod AnsweredConversions
