pub mod Lookup
pub mod Readings
pub mod Demand
pub mod Bounds
