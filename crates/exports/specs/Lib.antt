pub mod Answers
pub mod Estimates
pub mod Portions
pub mod Sheets
pub mod Gaps
pub mod Demands
