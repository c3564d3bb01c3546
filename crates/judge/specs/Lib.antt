pub mod CountSoFar
pub mod Progress
pub mod SearchLaws
pub mod StartLaws
pub mod Conclusion
pub mod SliceLaws
pub mod WholeLaws
