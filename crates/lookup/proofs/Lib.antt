pub mod Tests
pub mod Lookups
pub mod Sixes
