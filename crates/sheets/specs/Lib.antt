pub mod Lines
pub mod Notices
pub mod Sections
pub mod Texts
