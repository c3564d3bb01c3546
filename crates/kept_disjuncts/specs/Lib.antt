pub mod Queue
pub mod FlagBytes
pub mod NamedTargets
pub mod Standing
pub mod TakenUses
pub mod Closing
