pub mod Refusals
pub mod Dial
pub mod Rate
pub mod Entry
