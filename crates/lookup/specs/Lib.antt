pub mod Tests
pub mod Places
pub mod Latest
pub mod Six
