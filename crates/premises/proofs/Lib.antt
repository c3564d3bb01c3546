pub mod Copying
pub mod MovedEntries
pub mod PushedCases
