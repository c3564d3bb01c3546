pub mod PackedLaws
pub mod Passes
