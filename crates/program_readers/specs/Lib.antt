pub mod Sizes
pub mod Kinds
pub mod Rows
pub mod Owners
pub mod SizeLaws
pub mod Inside
pub mod OwnerLaws
