pub mod Plans
pub mod Workings
pub mod Text
pub mod All
pub mod Laws
