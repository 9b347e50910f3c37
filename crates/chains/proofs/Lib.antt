pub mod Steps
pub mod Worked
pub mod Cycles
pub mod Means
pub mod Rows
pub mod Linked
pub mod Words
pub mod Theorem
