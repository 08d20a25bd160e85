pub mod Books
pub mod Files
pub mod History
pub mod Plays
pub mod Closings
