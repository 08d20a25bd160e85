pub mod Running
pub mod Shares
