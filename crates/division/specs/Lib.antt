pub mod Limits
pub mod Rules
pub mod Nearness
pub mod Signed
pub mod Terms
pub mod Proportions
pub mod Turns
