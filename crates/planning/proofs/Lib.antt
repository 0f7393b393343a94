pub mod Deemed
pub mod Lines
pub mod Explaining
pub mod Everyone
pub mod Sums
pub mod Within
