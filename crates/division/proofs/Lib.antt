pub mod Admitting
pub mod Signs
pub mod Topping
