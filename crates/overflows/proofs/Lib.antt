pub mod Working
pub mod Steps
pub mod Theorem
