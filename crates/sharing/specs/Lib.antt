pub mod Sharing
pub mod Entries
