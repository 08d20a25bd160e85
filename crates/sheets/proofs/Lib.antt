pub mod Backs
pub mod Forms
pub mod Laws
pub mod Steps
pub mod Wholes
