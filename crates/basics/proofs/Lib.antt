pub mod Booleans
pub mod Integers
pub mod Lists
pub mod Stores
