pub mod Marks
pub mod Known
pub mod Filling
pub mod Sums
pub mod Rising
