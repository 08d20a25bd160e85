pub mod Left
pub mod Lists
