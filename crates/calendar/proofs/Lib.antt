pub mod Months
pub mod Walk
pub mod Seasons
