pub mod Claiming
pub mod Plants
pub mod Turns
pub mod Allotting
