pub mod Lookups
pub mod Gathering
