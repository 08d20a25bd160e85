pub mod Counts
pub mod Jobs
