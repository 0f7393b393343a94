pub mod Metering
pub mod Grouping
pub mod Area
