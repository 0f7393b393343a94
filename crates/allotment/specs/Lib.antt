pub mod Claims
pub mod Output
pub mod Laws
