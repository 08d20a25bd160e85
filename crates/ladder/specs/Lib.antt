pub mod Rungs
pub mod Ladder
pub mod Meanings
