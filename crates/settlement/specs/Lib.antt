pub mod Demand
pub mod Groups
pub mod Retailers
pub mod Area
