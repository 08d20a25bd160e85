pub mod Readings
pub mod Questions
pub mod Answers
pub mod Demand
