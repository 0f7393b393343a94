pub mod Owners
pub mod Levels
