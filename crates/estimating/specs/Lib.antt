pub mod Tables
pub mod Estimates
pub mod Cases
