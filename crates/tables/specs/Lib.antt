pub mod Listed
pub mod Carried
pub mod Keys
pub mod Filing
pub mod Apart
pub mod Figures
