pub mod Versions
pub mod Skips
pub mod Marks
pub mod Reading
