pub mod Trim
pub mod TrimRefusals
pub mod TrimmedLayout
pub mod TrimmedAccepted
pub mod AnsweredTrims
