pub mod AnsweredTrims
pub mod TrimRefusals
pub mod TrimmedAccepted
pub mod TrimmedLayout
