pub mod Judging
pub mod View
pub mod Ranges
pub mod Looking
pub mod Keys
pub mod Figures
pub mod Filing
