pub mod Trades
pub mod Laws
pub mod Beyond
