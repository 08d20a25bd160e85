pub mod Meanings
pub mod Firsts
