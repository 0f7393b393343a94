pub mod Numbers
pub mod Text
pub mod Codes
pub mod Partners
pub mod Plans
pub mod Owners
