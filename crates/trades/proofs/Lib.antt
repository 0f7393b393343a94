pub mod Opposites
pub mod Cancelling
pub mod Sums
