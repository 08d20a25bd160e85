pub mod Pieces
pub mod Named
pub mod Texts
pub mod Decisions
