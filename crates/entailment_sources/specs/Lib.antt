pub mod KeptBytes
pub mod NewNumbers
pub mod CaseLaws
pub mod WayLaws
